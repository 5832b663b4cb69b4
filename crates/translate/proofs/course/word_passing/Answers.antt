use Rattle.std.proofs.Common.{◌≡◌, ℕ, ◌+◌, ◌^◌, ◌<◌, Bool, false, cond, refl, sym, ap, ◌∙◌, subst, inl, inr, arith}
use Rattle.std.proofs.lemmas.Bool.{cases_lt, true≢false, false≢true}
use Rattle.ltl.specs.Words.{bit}
use Rattle.translate.proofs.Members.{Told, gathering_more, gathering_past}
use Rattle.translate.proofs.course.word_passing.Goals.{then-has_bit, else-has_bit}
use Rattle.translate.proofs.course.word_passing.Goals as goal

pub loop-j-preserved : goal.loop-j-preserved
loop-j-preserved g c =
    let word = c.loop-j.word in
    let j = c.loop-j.j in
    let before = c.loop-j.invariant in
    let same : c.from-k.result ≡ j = c.from-k.ensures in
    let few : c.from-k.result < 64 = omega (arith, c.min-width.ensures) in
    let says : ℕ → Bool → Type 0 = Told (λ J b. g.F.Fn.post c.args.test.now (J, tt) b) c.args.among c.args.base in
    let read : c.has_bit.result ≡ bit j c.args.among = c.has_bit.ensures ∙ ap (λ k. bit k c.args.among) same in
    elim c.if-has_bit.branch [
      | then-has_bit w ↦
          let put = w.with_bit-word.ensures few (subst (λ k. word < 2 ^ k) (sym same) before.below) in
          gathering_more says j word before w.test.result c.if-has_bit.word
          (w.word-is ∙ put ∙ ap (λ k. word + cond w.test.result (2 ^ k) 0) same)
          (record { answers = λ _. w.test.ensures; others = λ out. absurd (true≢false (sym w.if-has_bit.true ∙ read ∙ out)) })
      | else-has_bit w ↦
          gathering_more says j word before false c.if-has_bit.word
          (w.word-is ∙ (let z : word ≡ word + 0 = omega arith in z))
          (record { answers = λ within. absurd (false≢true (sym w.if-has_bit.false ∙ read ∙ within)); others = λ _. refl })
    ]

pub returns : goal.returns
returns g c =
    let built = c.loop-j.invariant in
    record {
      answers = λ k h low within. (built.says k (omega (arith, c.min-width.ensures, c.saturating_sub.ensures, low))).answers within;
      others = λ k h out. elim (cases_lt k c.loop-j.j) [
        | inl below ↦ (built.says k below).others out
        | inr past ↦ gathering_past _ _ _ built k past
      ];
      past = λ k h past. gathering_past _ _ _ built k (omega (arith, c.min-width.ensures, c.saturating_sub.ensures));
    }
