use Rattle.std.proofs.Common.{◌≡◌, length, sym, ◌∙◌, subst, arith, rules}
use borrow.Author.Tests.{tests}
use Rattle.std.specs.List.{list_all}
use Rattle.std.proofs.lemmas.List.{length-take-le}
use Rattle.std.proofs.lemmas.Iterator.{YieldsList-from_slice}
use Rattle.std.proofs.lemmas.Iterator.Search.{all_from_yields_List}
use Rattle.acceptor.specs.Said.{machine}
use Rattle.acceptor.specs.Walks.{Toured}
use Rattle.acceptor.proofs.Walking.{toured_meets, toured_more, toured_favours}
use Rattle.acceptor.proofs.stretch.Stretch.favours.Goals as goal

pub returns-in-None : goal.returns-in-None
returns-in-None g c =
    let m = machine (g.A.Course.moves c.args.self.now.acceptor.now) (g.A.Acceptor.judges c.args.self.now.acceptor.now) in
    sym (toured_meets m c.args.pair c.args.self.now.from c.args.self.now.cycle.now c.loop-turn._turn c.loop-turn.invariant
    c.args.self.now.cycles (omega arith) c.in-None.ensures)

pub loop-turn-preserved : goal.loop-turn-preserved
loop-turn-preserved g c =
    let m = machine (g.A.Course.moves c.args.self.now.acceptor.now) (g.A.Acceptor.judges c.args.self.now.acceptor.now) in
    toured_more m c.args.pair c.args.self.now.from c.args.self.now.cycle.now c.loop-turn._turn c.loop-turn.invariant
    (omega arith) c.in-Some.ensures

pub returns : goal.returns
returns g c =
    let m = machine (g.A.Course.moves c.args.self.now.acceptor.now) (g.A.Acceptor.judges c.args.self.now.acceptor.now) in
    let end : c.loop-turn._turn ≡ c.args.self.now.cycles = omega arith in
    let all : c.all.result ≡ list_all (λ mark. mark) c.loop-turn.met =
    all_from_yields_List (λ mark. mark) _ _ c.all.result c.all.ensures.ran (YieldsList-from_slice c.loop-turn.met c.iter.ensures.rest) (λ x b q k. search (rules, tests)) in
    let long : length c.loop-turn.met ≡ c.visits.result = c.loop-turn.auto.met ∙ length-take-le c.visits.result _ (omega arith) in
    all ∙ toured_favours m c.args.self.now.from c.args.self.now.cycle.now c.args.self.now.cycles c.args.pair (long ∙ c.visits.ensures.value)
    (subst (λ n. Toured m c.args.pair c.args.self.now.from c.args.self.now.cycle.now n c.loop-turn.met c.loop-turn.state) end c.loop-turn.invariant)
