use Rattle.std.proofs.Common.{ltb, ap, ◌∙◌}
use Rattle.outlook.specs.Letters.{letters_where}
use Rattle.outlook.proofs.Sets.{every_right}
use Rattle.outlook.proofs.pairing.every_letter.Goals as goal

pub returns : goal.returns
returns c =
    let m = c.letter_count-letters.result in
    every_right m c.letter_count-letters.ensures.few ∙ ap (λ j. letters_where (λ a. ltb a j)) c.letter_count-letters.ensures.value
