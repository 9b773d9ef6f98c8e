-- A form: named fields in the order of the file. A field has a kind, and rules for its value, each with the number that is given where it
-- does not hold. What comes after a field may depend on its value. Nothing here reads.
use Rattle.std.specs.Prelude.{ℕ, ◌≡◌, Bool, true, false, List, [], ◌∷◌, ◌++◌, T}
use Rattle.form.specs.Kind.{Kind, Value, fits, spell}

-- a rule, and the number given where it does not hold
pub data Rule : Type 0 where
  rule : ℕ → Bool → Rule

abbrev pub Holds : List Rule → Type 0
Holds [] = Unit {0}
Holds (rule n b ∷ rs) = T b × Holds rs

-- N: the names of the fields. A: what a filled form says
pub data Form (N A : Type 0) : Type 0 where
  ret : A → Form N A
  field : N → (κ : Kind) → (Value κ → List Rule) → (Value κ → Form N A) → Form N A

infixl 20 ◌>>=◌
infixl 20 ◌>>◌
-- one form, and then another that may depend on what the first says
abbrev pub ◌>>=◌ : {N A B : Type 0} → Form N A → (A → Form N B) → Form N B
ret a >>= k = k a
field ν κ rs next >>= k = field ν κ rs (λ v. next v >>= k)

abbrev pub ◌>>◌ : {N A B : Type 0} → Form N A → Form N B → Form N B
m >> k = m >>= λ u. k

-- one field
abbrev pub get : {N : Type 0} → N → (κ : Kind) → (Value κ → List Rule) → Form N (Value κ)
get ν κ rs = field ν κ rs (λ v. ret v)

-- a field with no rule of its own
abbrev pub any : {N : Type 0} → N → (κ : Kind) → Form N (Value κ)
any ν κ = get ν κ (λ v. [])

-- the first where the test holds, else the second, which waits until it is asked for
abbrev pub fork : {N A : Type 0} → Bool → Form N A → (Unit {0} → Form N A) → Form N A
fork true m k = m
fork false m k = k tt

-- a content of a field: a value that fits and keeps the rules
abbrev pub Content : (κ : Kind) → (Value κ → List Rule) → Type 0
Content κ rs = (v : Value κ) × T (fits κ v) × Holds (rs v)

-- one way to fill in the form: a content for each field
abbrev pub Filled : {N A : Type 0} → Form N A → Type 0
Filled (ret a) = Unit {0}
Filled (field ν κ rs next) = (c : Content κ rs) × Filled (next c.0)

-- what a filled form says
abbrev pub value : {N A : Type 0} (m : Form N A) → Filled m → A
value (ret a) r = a
value (field ν κ rs next) r = value (next r.0.0) r.1

-- the bytes of a filled form
abbrev pub bytes : {N A : Type 0} (m : Form N A) → Filled m → List ℕ
bytes (ret a) r = []
bytes (field ν κ rs next) r = spell κ r.0.0 ++ bytes (next r.0.0) r.1

-- bytes with which some filled form begins
abbrev pub Begins : {N A : Type 0} → Form N A → List ℕ → Type 0
Begins m bs = (r : Filled m) × (rest : List ℕ) × (bytes m r ≡ bs ++ rest)

-- every field that can be come to has a content
abbrev pub Viable : {N A : Type 0} → Form N A → Type 0
Viable (ret a) = Unit {0}
Viable (field ν κ rs next) = Content κ rs × ((c : Content κ rs) → Viable (next c.0))
