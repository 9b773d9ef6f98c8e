-- fields::number_in meets its contract: what the bytes spell, or the refusal.
use Rattle.std.proofs.Common.{Bool, true, false, cond, Some, None, Ok, Err, ◌≡◌, ℕ, refl}
use Rattle.std.specs.Option.{ok_or}
use Rattle.form.specs.Kind.{every, digit}
use Rattle.fields.specs.declared.Refusal.{Refusal}
use Rattle.fields.specs.Stretches.{digits_of}
use Rattle.fields.proofs.number_in.Goals as goal

by_digits : (b : Bool) (n : ℕ) (r : Refusal) → ok_or (cond b (Some n) None) r ≡ cond b (Ok n) (Err r)
by_digits true n r = refl
by_digits false n r = refl

pub returns : goal.returns
unfolding digits_of
returns c = rw (c.ok_or.ensures.value, c.digits_of.ensures, c.refuse.ensures) (by_digits (every digit c.args.f.now) _ _)
