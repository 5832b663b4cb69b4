use Rattle.std.proofs.Common.{rules, ◌<◌, ◌≤◌, length, not, true, refl, sym, ap, ◌∙◌, arith}
use Rattle.std.proofs.lemmas.List.Sums.{prefix_len-le-length}
use Rattle.few.specs.Items.{items}
use Rattle.few.proofs.Granted.{items_few, full}
use Rattle.ltl.specs.Arena.{same_node}
use Rattle.ltl.proofs.Search.{found_some, found_none}
use Rattle.rule.specs.Pools.{held}
use Rattle.rule.proofs.Pooled.{put_known, put_new, put_over}
use Rattle.rule.proofs.pool.Pool.put.Goals as goal

pub overflow_cast-result : goal.overflow_cast-result
overflow_cast-result c =
    let n = c.args.node in
    let found = found_some (same_node n) (λ y. not (same_node n y)) (λ y. refl) (items c.args.self.now.nodes) c.in-Some.at (sym c.find.ensures ∙ c.in-Some.is) in
    omega (arith, items_few c.args.self.now.nodes)

pub returns-in-Some-clause-after : goal.returns-in-Some-clause-after
returns-in-Some-clause-after c =
    let n = c.args.node in
    let h = held c.args.self.now in
    let found = found_some (same_node n) (λ y. not (same_node n y)) (λ y. refl) h.nodes c.in-Some.at (sym c.find.ensures ∙ c.in-Some.is) in
    ap (λ r. r.0) (sym (put_known n h found.1))

pub returns-in-Some-clause-number : goal.returns-in-Some-clause-number
returns-in-Some-clause-number c =
    let n = c.args.node in
    let h = held c.args.self.now in
    let found = found_some (same_node n) (λ y. not (same_node n y)) (λ y. refl) h.nodes c.in-Some.at (sym c.find.ensures ∙ c.in-Some.is) in
    found.0 ∙ ap (λ r. r.1) (sym (put_known n h found.1))

pub returns-in-Ok-clause-after : goal.returns-in-Ok-clause-after
returns-in-Ok-clause-after c =
    let n = c.args.node in
    let h = held c.args.self.now in
    let new = found_none (same_node n) (λ y. not (same_node n y)) (λ y. refl) h.nodes (sym c.find.ensures ∙ search rules) in
    let room : length h.nodes < 32 = search rules in
    ap (λ ns. record { nodes = ns; over = h.over }) (search rules) ∙ ap (λ r. r.0) (sym (put_new n h new room))

pub returns-in-Ok-clause-number : goal.returns-in-Ok-clause-number
returns-in-Ok-clause-number c =
    let n = c.args.node in
    let h = held c.args.self.now in
    let new = found_none (same_node n) (λ y. not (same_node n y)) (λ y. refl) h.nodes (sym c.find.ensures ∙ search rules) in
    let room : length h.nodes < 32 = search rules in
    omega (arith, prefix_len-le-length (λ y. not (same_node n y)) h.nodes) ∙ ap (λ r. r.1) (sym (put_new n h new room))

pub returns-in-Err-clause-after : goal.returns-in-Err-clause-after
returns-in-Err-clause-after c =
    let n = c.args.node in
    let h = held c.args.self.now in
    let new = found_none (same_node n) (λ y. not (same_node n y)) (λ y. refl) h.nodes (sym c.find.ensures ∙ search rules) in
    let none : 32 ≤ length h.nodes = full c.push.result (length h.nodes) 32 c.push.ensures.room.1 c.in-Err.is in
    ap (λ ns. record { nodes = ns; over = true }) (search rules) ∙ ap (λ r. r.0) (sym (put_over n h new none))

pub returns-in-Err-clause-number : goal.returns-in-Err-clause-number
returns-in-Err-clause-number c =
    let n = c.args.node in
    let h = held c.args.self.now in
    let new = found_none (same_node n) (λ y. not (same_node n y)) (λ y. refl) h.nodes (sym c.find.ensures ∙ search rules) in
    let none : 32 ≤ length h.nodes = full c.push.result (length h.nodes) 32 c.push.ensures.room.1 c.in-Err.is in
    ap (λ r. r.1) (sym (put_over n h new none))
