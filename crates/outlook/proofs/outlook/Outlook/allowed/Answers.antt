use Rattle.std.proofs.Common.{length, ap, ◌∙◌}
use lib.Bits.{bit_and}
use Rattle.rule.specs.Rules.{nodes_in, names_in}
use Rattle.outlook.specs.Pairs.{others}
use Rattle.outlook.proofs.Staying.{allowed_right}
use Rattle.outlook.proofs.outlook.Outlook.allowed.Goals as goal

pub returns : goal.returns
returns c =
    let rule = c.args.self.now.rule.now in
    let odds = c.args.odds in
    ap (λ w. bit_and (bit_and w (others odds.breaking)) (others odds.barred)) c.every_letter.ensures
    ∙ allowed_right (length (names_in rule)) (nodes_in rule) c.args.self.now.forecast odds c.requires
