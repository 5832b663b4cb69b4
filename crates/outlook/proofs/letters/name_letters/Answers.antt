use Rattle.std.proofs.Common.{◌≡◌, get_or, ◌∙◌, rules}
use Rattle.outlook.proofs.Named.{named_letters, named_all}
use Rattle.outlook.proofs.letters.name_letters.Goals as goal

pub returns : goal.returns
returns c =
    let name = c.args.name in
    let looked-up : c.unwrap_or.result ≡ get_or named_letters name 0 = search rules in
    looked-up ∙ named_all name
