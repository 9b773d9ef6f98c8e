-- The reader of a form: it examines the fields in the order of the file, each whole, then its bytes, then its rules in their order, and
-- gives what was read or the first refusal.
use Rattle.std.specs.Prelude.{ℕ, ◌+◌, ◌-◌, ◌*◌, ◌^◌, Bool, true, false, List, [], ◌∷◌, length, take, drop, leb}
use Rattle.std.proofs.Math.Option.{Option, none, some}
use Rattle.form.specs.Kind.{Kind, fixed, digits, maybe, text, choice, Value, width, every, same, among, digit, blanks}
use Rattle.form.specs.Form.{Rule, rule, Form, ret, field}

-- why a file is refused
pub data Reason : Type 0 where
  short : Reason  -- it ends before the field is whole
  not_fixed : Reason  -- bytes that are fixed are not so, or are none of the words
  not_digit : Reason  -- a byte of a digit field is no digit
  not_sign : Reason  -- a byte of a text is no permitted sign
  breaks : ℕ → Reason  -- the rule of that number does not hold
  surplus : Reason  -- bytes follow the last field

pub record Refusal (N : Type 0) : Type 0 where
  pub reason : Reason
  pub place : ℕ  -- the field's first byte, counted from 0
  pub width : ℕ  -- the field's width
  pub name : Option N  -- the field's name; none where bytes follow the last field

pub data Answer (N A : Type 0) : Type 0 where
  accepted : A → Answer N A
  refused : Refusal N → Answer N A

-- reading a field gives its content, or the reason why it has none
pub data Look (X : Type 0) : Type 0 where
  has : X → Look X
  lacks : Reason → Look X

abbrev pub if_so : {X : Type 0} → Bool → X → Reason → Look X
if_so true v z = has v
if_so false v z = lacks z

abbrev pub ◌then◌ : {X Y : Type 0} → Look X → (X → Look Y) → Look Y
◌then◌ (has v) k = k v
◌then◌ (lacks z) k = lacks z

-- the number that digits spell
unfoldable pub number : List ℕ → ℕ
number [] = 0
number (b ∷ bs) = (b - 0x30) * 10 ^ length bs + number bs

-- blanks, or digits
abbrev pub optional : Bool → List ℕ → Look (Option ℕ)
optional true f = has none
optional false f = if_so (every digit f) (some (number f)) not_digit

-- the bytes of a whole field
unfoldable pub judge : (κ : Kind) → List ℕ → Look (Value κ)
judge (fixed bs) f = if_so (same bs f) tt not_fixed
judge (digits w) f = if_so (every digit f) (number f) not_digit
judge (maybe w) f = optional (same (blanks w) f) f
judge (text sign w) f = if_so (every sign f) f not_sign
judge (choice w words) f = if_so (among words f) f not_fixed

-- the first rule that does not hold
abbrev pub obey : {X : Type 0} → List Rule → X → Look X
obey [] v = has v
obey (rule n true ∷ rs) v = obey rs v
obey (rule n false ∷ rs) v = lacks (breaks n)

-- a whole field: its bytes, then its rules
abbrev pub settle : (κ : Kind) → (Value κ → List Rule) → List ℕ → Look (Value κ)
settle κ rs f = ◌then◌ (judge κ f) (λ v. obey (rs v) v)

abbrev pub if_whole : {X : Type 0} → Bool → Look X → Look X
if_whole true l = l
if_whole false l = lacks short

-- the field with which the bytes begin: whole, then its bytes, then its rules
abbrev pub look : (κ : Kind) → (Value κ → List Rule) → List ℕ → Look (Value κ)
look κ rs f = if_whole (leb (width κ) (length f)) (settle κ rs (take (width κ) f))

-- an answer to what follows w bytes, as the answer to the whole: its place lies w bytes further on
abbrev pub later : {N A : Type 0} → ℕ → Answer N A → Answer N A
later w (accepted a) = accepted a
later w (refused r) = refused (record { reason = r.reason; place = w + r.place; width = r.width; name = r.name })

abbrev pub onward : {N A X : Type 0} → N → ℕ → Look X → (X → Answer N A) → Answer N A
onward ν w (has v) k = later w (k v)
onward ν w (lacks z) k = refused (record { reason = z; place = 0; width = w; name = some ν })

-- the answer to a whole file
unfoldable pub run : {N A : Type 0} → Form N A → List ℕ → Answer N A
run (ret a) [] = accepted a
run (ret a) (x ∷ xs) = refused (record { reason = surplus; place = 0; width = 1; name = none })
run (field ν κ rs next) f = onward ν (width κ) (look κ rs f) (λ v. run (next v) (drop (width κ) f))
