use Rattle.std.proofs.Common.{not, nat_eq, length, sym, ap, ◌∙◌, arith}
use Rattle.rule.specs.Rules.{nodes_in, names_in}
use Rattle.outlook.proofs.Staying.{none_allowed, steady_is}
use Rattle.outlook.proofs.Ruled.{few_letters, few_nodes, unmet_any}
use Rattle.outlook.proofs.outlook.Outlook.is_steady.Goals as goal

pub returns-then-allowed-ne0 : goal.returns-then-allowed-ne0
returns-then-allowed-ne0 c =
    let o = c.args.self.now in
    let rule = o.rule.now in
    ap not (c.has_unmet.ensures ∙ unmet_any rule o.forecast o.words o.told c.args.allowed c.requires (omega (arith, few_nodes rule)))
    ∙ steady_is (length (names_in rule)) (nodes_in rule) o.forecast (few_letters rule) (λ e. c.if-allowed-ne0.true (c.requires ∙ e))

pub returns-else-allowed-ne0 : goal.returns-else-allowed-ne0
returns-else-allowed-ne0 c =
    let rule = c.args.self.now.rule.now in
    ap (λ a. not (nat_eq a 0)) c.if-allowed-ne0.false
    ∙ none_allowed (length (names_in rule)) (nodes_in rule) c.args.self.now.forecast (few_letters rule) (sym c.requires ∙ c.if-allowed-ne0.false)
