use Rattle.translate.proofs.Members.{joined_answers, joined_others, joined_only}
use Rattle.translate.proofs.state.Forecasts.passing.Goals as goal

pub returns-clause-answers : goal.returns-clause-answers
returns-clause-answers g c =
    joined_answers _ c.args.count c.requires.few c.args.among.now _ _ _ _ c.word_passing.ensures c.word_passing-2.ensures c.word_passing-3.ensures c.word_passing-4.ensures

pub returns-clause-others : goal.returns-clause-others
returns-clause-others g c =
    joined_others _ c.args.count c.requires.few c.args.among.now _ _ _ _ c.word_passing.ensures c.word_passing-2.ensures c.word_passing-3.ensures c.word_passing-4.ensures

pub returns-clause-only : goal.returns-clause-only
returns-clause-only g c =
    joined_only _ c.args.count c.requires.few c.args.among.now _ _ _ _ c.word_passing.ensures c.word_passing-2.ensures c.word_passing-3.ensures c.word_passing-4.ensures
    c.word_passing.type_inv c.word_passing-2.type_inv c.word_passing-3.type_inv c.word_passing-4.type_inv
