use Rattle.std.proofs.Common.{◌≡◌, ◌+◌, ◌-◌, ◌<◌, ◌^◌, cond, length, get_or, ap, ◌∙◌, subst, sym, inl, arith}
use Rattle.evaluate.specs.Marks.{value}
use Rattle.evaluate.proofs.Marking.{bit_at, carried, marked_down}
use Rattle.evaluate.proofs.subformula.Subformula.mark_lead.Goals as goal

pub loop-i-preserved : goal.loop-i-preserved
loop-i-preserved c =
    let node = c.args.self.now.node in
    let k = c.args.self.now.number in
    let behind = c.args.behind in
    let words = c.args.words.now in
    let cur = c.loop-i.words in
    let i = c.loop-i.i - 1 in
    let word = c.mark-next.new.word in
    let is_set = c.mark-next.result in
    let letter = get_or c.args.lead.now i 0 in
    let here = get_or words i 0 in
    let same : get_or cur i 0 ≡ here = c.loop-i.invariant.marked.outside i (inl (omega arith)) in
    let low : here < 2 ^ k = c.requires.below i (omega arith) in
    let put : word ≡ here + cond is_set (2 ^ k) 0 =
    c.mark-next.ensures.put (subst (λ v. v < 2 ^ k) (sym same) low) ∙ ap (λ v. v + cond is_set (2 ^ k) 0) same in
    let holds : is_set ≡ value node letter here (bit_at k cur behind c.loop-i.i) =
    c.mark-next.ensures.value ∙ ap (λ v. value node letter v c.loop-i.next) same ∙ ap (value node letter here) c.loop-i.invariant.carried in
    record {
      carried = carried k i behind cur word here is_set (omega (arith, c.loop-i.invariant.marked.size)) low put;
      marked =
          marked_down k i behind cur word c.loop-i.i (length c.args.lead.now) (λ j next. value node (get_or c.args.lead.now j 0) (get_or words j 0) next) words
          (omega arith) (omega arith) (omega arith) (put ∙ ap (λ b. here + cond b (2 ^ k) 0) holds) c.loop-i.invariant.marked;
    }
