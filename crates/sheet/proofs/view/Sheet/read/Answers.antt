use Rattle.std.proofs.Common.{arith, rules}
use Rattle.sheet.proofs.SheetLaw.{lawful}
use Rattle.sheet.proofs.view.Sheet.read.Goals as goal

pub returns-in_err-check_order : goal.returns-in_err-check_order
returns-in_err-check_order c = lawful c.args.bytes.now _ (λ i. omega (arith, c.type_inv.bytes i)) (search rules)

pub returns-in_err-text : goal.returns-in_err-text
returns-in_err-text c = lawful c.args.bytes.now _ (λ i. omega (arith, c.type_inv.bytes i)) (search rules)

pub returns-in_err-rule : goal.returns-in_err-rule
returns-in_err-rule c = lawful c.args.bytes.now _ (λ i. omega (arith, c.type_inv.bytes i)) (search rules)

pub returns : goal.returns
returns c = lawful c.args.bytes.now _ (λ i. omega (arith, c.type_inv.bytes i)) (search rules)
