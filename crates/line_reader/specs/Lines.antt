-- What is seen of a payment's line, stretch by stretch: it is in order, or, where the code says no, none that is in order stands there. Only
-- private functions go by this; what the walk as a whole tells is `line_seen`.
use Rattle.std.specs.Prelude.{ℕ, zero, suc, Option, MatchOption, ◌+◌, ◌-◌, ◌≤◌, ◌<◌, ◌≡◌, Bool, true, ◌&&◌, not, cond, List, [], ◌∷◌, length, take, drop, get_or, T, eqb}
use Rattle.form.specs.Kind.{digits}
use Rattle.form.specs.Reader.{has}
use Rattle.form.specs.Place.{look_at, field_at}
use Rattle.document.specs.Signs.{sign}
use Rattle.document.specs.Marks.{most_parts, room_after, mark_ok}
use Rattle.layout.specs.Widths as width
use Rattle.layout.specs.Lines as line
use Rattle.diskette.specs.Fields.{rules_c4, rules_c5, rules_c6, rules_c7a, rules_c7b, rules_c10, rules_c11, rules_c12}
use Rattle.payment_fields.specs.Stretches as stretches
use Rattle.sums.specs.declared.AccountSum.{AccountSum}
use Rattle.sums.specs.declared.BankCodeSum.{BankCodeSum}
use Rattle.sums.specs.declared.CentSum.{CentSum}
use Rattle.sums.specs.declared.Sums.{Sums}
use Rattle.listing.specs.Lines.{tab, line_end, ends_in_blank}

-- what was found has P; where nothing was found, there is nothing that has P
abbrev pub Found : {A : Type 0} → (A → Type 0) → Option A → Type 0
Found {A} P o = MatchOption o ((x : A) → P x → ⊥) P

-- ---- the numbers of the line at p

-- the byte at q is b
abbrev pub is : List ℕ → ℕ → ℕ → Bool
is l q b = eqb (get_or l q 0) b

-- a tab stands ahead of the field at place q of the line
abbrev pub tab_ahead : List ℕ → ℕ → ℕ → Bool
tab_ahead l p q = is l (p + (q - 1)) tab

-- the letter, and a tab behind it and behind each number but the last
abbrev pub parted : List ℕ → ℕ → Bool
parted l p =
    ((is l p 0x43 && tab_ahead l p line.C3) && ((tab_ahead l p line.C4 && tab_ahead l p line.C5) && tab_ahead l p line.C6))
    && (((tab_ahead l p line.C7a && tab_ahead l p line.C7b) && tab_ahead l p line.C10) && (tab_ahead l p line.C11 && tab_ahead l p line.C12))

-- C3 to C7b keep the rules, and the two sums go on to a and b
pub record Receiver (l : List ℕ) (p : ℕ) (letters : List ℕ) (accounts banks : ℕ) (a : AccountSum) (b : BankCodeSum) : Type 0 where
  pub fields : stretches.Receiver
  pub C3 : look_at (digits 8) l (p + line.C3) ≡ has fields.first_bank
  pub C4 : field_at (digits 8) (rules_c4 banks) l (p + line.C4) ≡ has fields.bank_code
  pub C5 : field_at (digits 10) (rules_c5 accounts) l (p + line.C5) ≡ has fields.account
  pub C6 : field_at (digits 13) rules_c6 l (p + line.C6) ≡ has fields.customer
  pub C7a : field_at (digits 2) (rules_c7a letters) l (p + line.C7a) ≡ has fields.key
  pub C7b : field_at (digits 3) (rules_c7b fields.key) l (p + line.C7b) ≡ has fields.supplement
  pub accounts_on : a ≡ record { 0 = accounts + fields.account }
  pub banks_on : b ≡ record { 0 = banks + fields.bank_code }

abbrev pub Receivers : List ℕ → ℕ → List ℕ → ℕ → ℕ → Option (AccountSum × BankCodeSum) → Type 0
Receivers l p letters accounts banks = Found (λ on. Receiver l p letters accounts banks on.0 on.1)

-- C10 to C12 keep the rules, and the sum goes on to c
pub record Amount (l : List ℕ) (p cents : ℕ) (c : CentSum) : Type 0 where
  pub fields : stretches.Amount
  pub C10 : field_at (digits 8) rules_c10 l (p + line.C10) ≡ has fields.sender_bank
  pub C11 : field_at (digits 10) rules_c11 l (p + line.C11) ≡ has fields.sender_account
  pub C12 : field_at (digits 11) (rules_c12 cents) l (p + line.C12) ≡ has fields.cents
  pub cents_on : c ≡ record { 0 = cents + fields.cents }

abbrev pub Amounts : List ℕ → ℕ → ℕ → Option CentSum → Type 0
Amounts l p cents = Found (Amount l p cents)

-- all numbers and the tabs between them, and the sums go on to new
pub record AllNumbers (l : List ℕ) (p : ℕ) (letters : List ℕ) (sums new : Sums) : Type 0 where
  pub inside : p + line.tab_of_texts ≤ length l
  pub parted : parted l p ≡ true
  pub receiver : Receiver l p letters sums.accounts.0 sums.banks.0 new.accounts new.banks
  pub amount : Amount l p sums.cents.0 new.cents

abbrev pub Numbers : List ℕ → ℕ → List ℕ → Sums → Option Sums → Type 0
Numbers l p letters sums = Found (AllNumbers l p letters sums)

-- ---- texts

-- with how many permitted signs these bytes begin; so many are looked at and no more
unfoldable pub signs_ahead : ℕ → List ℕ → ℕ
signs_ahead zero bs = 0
signs_ahead (suc n) [] = 0
signs_ahead (suc n) (b ∷ bs) = let r = signs_ahead n bs in cond (sign b) (suc r) 0

-- where the permitted signs from p on end, as many as a text has at the most
abbrev pub signs_end : List ℕ → ℕ → ℕ
signs_end l p = p + signs_ahead width.text (drop p l)

-- what stands behind the tab at q, up to e
abbrev pub behind_tab : List ℕ → ℕ → ℕ → List ℕ
behind_tab l q e = take (e - (q + 1)) (drop (q + 1) l)

-- a tab at q, and a text of a line up to e
pub record Text (l : List ℕ) (q e : ℕ) : Type 0 where
  pub inside : q < length l
  pub tab : get_or l q 0 ≡ tab
  pub to : e ≡ signs_end l (q + 1)
  pub ends : T (not (ends_in_blank (behind_tab l q e)))

abbrev pub Texts : List ℕ → ℕ → Option ℕ → Type 0
Texts l q = Found (Text l q)

-- three texts one behind the other, from the tab at q up to e, the first two not empty
pub record ThreeTexts (l : List ℕ) (q e : ℕ) : Type 0 where
  pub first : ℕ
  pub second : ℕ
  pub C14a : Text l q first
  pub c14a_some : q + 2 ≤ first
  pub C15 : Text l first second
  pub c15_some : first + 2 ≤ second
  pub C16 : Text l second e

abbrev pub Names : List ℕ → ℕ → Option ℕ → Type 0
Names l q = Found (ThreeTexts l q)

-- ---- parts

-- a part from q to e, whose mark may stand where there is so much room
pub record Part (l : List ℕ) (q room mark e : ℕ) : Type 0 where
  pub tab : get_or l q 0 ≡ tab
  pub number : look_at (digits 2) l (q + 1) ≡ has mark
  pub may : mark_ok room mark ≡ true
  pub text : Text l (q + (1 + width.mark)) e

abbrev pub OnePart : List ℕ → ℕ → ℕ → Option (ℕ × ℕ) → Type 0
OnePart l q room = Found (λ part. Part l q room part.0 part.1)

-- k parts from q on, and then the line's end at e
pub data PartsTo (l : List ℕ) : ℕ → ℕ → ℕ → ℕ → Type 0 where
  ended : {q room : ℕ} → q < length l → get_or l q 0 ≡ line_end → PartsTo l q room 0 q
  more : {q room mark r k e : ℕ} → Part l q room mark r → PartsTo l r (room_after mark room) k e → PartsTo l q room (suc k) e

abbrev pub AllParts : List ℕ → ℕ → Option (ℕ × ℕ) → Type 0
AllParts l q = Found (λ parts. PartsTo l q most_parts parts.0 parts.1)
