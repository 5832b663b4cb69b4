-- What a field holds, as its tag tells.
use Rattle.std.specs.Prelude.{ℕ, cond, Ok, Err, Result, ◌==◌}
use Rattle.sheet.specs.declared.order.Kind.{Kind}
use Rattle.sheet.specs.declared.order.Kind.TheVariants.{Name, Rule, LeadIn, Cycle}
use Rattle.sheet.specs.declared.order.UnknownTag.{UnknownTag}

-- 1 for a name, 2 for the rule, then 3 and 4 for each round
abbrev pub told_kind : ℕ → Result Kind UnknownTag
told_kind t =
    cond (t == 1) (Ok Name)
    (cond (t == 2) (Ok Rule)
    (cond (t == 3) (Ok LeadIn)
    (cond (t == 4) (Ok Cycle)
    (Err (record { 0 = t })))))
