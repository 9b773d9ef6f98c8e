-- What the bytes of a field tell. Only private functions go by this, but for the widest number, which the public ones cite too.
use Rattle.std.specs.Prelude.{ℕ, Bool, cond, List, Option, Some, None, Ok, Err, nat_eq}
use Rattle.form.specs.Kind.{every, digit}
use Rattle.form.specs.Reader.{number}
use Rattle.document.specs.Signs.{sign}
use Rattle.fields.specs.declared.Signs.{Signs}
use Rattle.fields.specs.Answers.{refusal_of, Reading, Telling}

-- no number of the form has more digits
abbrev pub widest : ℕ
widest = 17

unfoldable pub digits_of : List ℕ → Option ℕ
digits_of f = cond (every digit f) (Some (number f)) None

-- the number that bytes at p spell; else the refusal of bytes that are no digits
abbrev pub number_in : List ℕ → ℕ → Reading ℕ
number_in f p = cond (every digit f) (Ok (number f)) (Err (refusal_of 3 p))

unfoldable pub signs_of : List ℕ → Signs
signs_of f = record { permitted = every sign f; blank = every (λ b. nat_eq b 0x20) f }

-- what is kept of a text: whether it is blank
abbrev pub texts : Telling (List ℕ) (Bool × ℕ)
texts f q = ((signs_of f).blank, q)
