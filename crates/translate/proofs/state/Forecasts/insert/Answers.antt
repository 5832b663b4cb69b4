use Rattle.std.proofs.Common.{◌≡◌, ℕ, ◌*◌, ◌/◌, ◌%◌, ◌^◌, ◌<◌, length, get_or, set, ap, ◌∙◌, arith, rules}
use lib.Bits.{bit_or}
use Rattle.translate.specs.declared.state.Forecasts.{Forecasts}
use Rattle.translate.proofs.Members.{inserted}
use Rattle.translate.proofs.state.Forecasts.insert.Goals as goal

pub returns : goal.returns
returns c =
    let words = c.args.self.now.words in
    let size : length words ≡ 4 = search rules in
    let fits : (q : ℕ) → q < 4 → get_or words q 0 < 2 ^ 64 = λ q l. search rules in
    let after : ℕ → Forecasts = λ p. record { words = set words (p / 64) (bit_or (get_or words (p / 64) 0) (1 * 2 ^ (p % 64) % 2 ^ 64)) } in
    ap after c.from-place.ensures ∙ inserted c.args.self.now c.args.forecast (omega arith) size fits
