use Rattle.std.proofs.Common.{rules, tests, ◌∙◌}
use Rattle.std.specs.Str.{bytes_eq}
use Rattle.std.proofs.lemmas.Iterator.{YieldsList-from_slice}
use Rattle.std.proofs.lemmas.Iterator.Adapters.{position_from-zero}
use Rattle.std.proofs.lemmas.Iterator.Search.{position_from_yields_List}
use Rattle.few.specs.Items.{items}
use Rattle.names.specs.Spelled.{spelled}
use Rattle.names.proofs.Rows.{position_mapped}
use Rattle.names.proofs.list.Names.find.Goals as goal

pub returns : goal.returns
returns c =
    let names = items c.args.self.now.list in
    position_from_yields_List (λ n. bytes_eq c.args.word.now (spelled n)) _ _ c.position.result c.position.ensures.ran (YieldsList-from_slice names cc) (λ x b q k. search (rules, tests))
    ∙ position_from-zero _ names
    ∙ position_mapped spelled (bytes_eq c.args.word.now) 0 names
