-- Lines of refusals, byte for byte.
use Rattle.std.specs.Prelude.{◌≡◌, refl}
use Rattle.form.specs.Kind.{numeral}
use Rattle.document.specs.Signs.{ascii}
use Rattle.reply.specs.Reply.{digits_within, decimal, refusal_line}

-- 0 has a digit too
pub zero_written : decimal 0 ≡ ascii "0"
unfolding digits_within numeral
zero_written = refl

pub most_written : decimal 18446744073709551615 ≡ ascii "18446744073709551615"
unfolding digits_within numeral
most_written = refl

pub file_refused : refusal_line 13 315 ≡ ascii "13\t315\n"
unfolding digits_within numeral
file_refused = refl

pub input_too_long : refusal_line 20 32768 ≡ ascii "20\t32768\n"
unfolding digits_within numeral
input_too_long = refl
