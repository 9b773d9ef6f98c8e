-- A field at a place: whole or not, then what its bytes tell; and the leaf that looks at the rules too.
-- Each way out of a leaf has its law, by opening the reader at a place: not whole, the wrong bytes, the right ones (`leaf_short`, `leaf_wrong`,
-- `leaf_right`), and with rules refused by its bytes, a rule broken, all kept (`field_fails`, `field_broken`, `field_holds`). Where the code
-- tests that every byte is a blank or a zero, the form compares with a row of them: the two agree by induction over the bytes (`same_fill`).
use Rattle.std.proofs.Common.{◌≡◌, ℕ, ◌+◌, ◌≤◌, Bool, true, false, Ok, Err, eqb, leb, List, [], ◌∷◌, length, take, drop, replicate, sym, refl, ap, ◌∙◌, arith, length-drop, length-take-le, eq-eqb, ne_eqb, eqb-true, leb-false, leb-true}
use borrow.Author.Tests.{eqb-false}
use Rattle.form.specs.Kind.{Kind, fixed, digits, maybe, Value, width, every, same}
use Rattle.form.specs.Form.{Rule}
use Rattle.form.specs.Reader.{Reason, Look, short, not_fixed, not_sign, breaks, has, lacks, if_so, optional, judge, obey}
use Rattle.form.specs.Place.{look_at, field_at}
use Rattle.document.specs.Signs.{sign}
use Rattle.diskette.specs.Fields.{text27, rules_of_names}
use Rattle.verdict.specs.Verdicts.{number_of}
use Rattle.fields.specs.declared.Refusal.{Refusal}
use Rattle.fields.specs.Answers.{refusal_of, refusal_at, Reading, Telling, of_field, passings, numbers}
use Rattle.fields.specs.Stretches.{signs_of, texts}
use Rattle.fields.proofs.WalkLaws.{Fails, fails, stands}
use Rattle.fields.proofs.AnswerLaws.{number_is}

-- two comparisons that hold together
pub leb_leb : (a b c d : ℕ) → (a ≤ b → c ≤ d) → (c ≤ d → a ≤ b) → leb a b ≡ leb c d
leb_leb a b c d to from = by (leb a b) (leb c d) refl refl
  where
    by : (s t : Bool) → leb a b ≡ s → leb c d ≡ t → s ≡ t
    by true true e i = refl
    by true false e i = absurd (let h = to (leb-true a b e) in let g = leb-false c d i in omega arith)
    by false true e i = absurd (let h = from (leb-true c d i) in let g = leb-false a b e in omega arith)
    by false false e i = refl

-- ---- whole, then the bytes

module _ (κ : Kind) (s : List ℕ) (p w : ℕ) (wide : width κ ≡ w) where
  pub not_whole : leb (p + w) (length s) ≡ false → look_at κ s p ≡ lacks short
  unfolding look_at
  not_whole e = rw (wide, e)

  pub is_whole : leb (p + w) (length s) ≡ true → look_at κ s p ≡ judge κ (take w (drop p s))
  unfolding look_at
  is_whole e = rw (wide, e)

-- the answers to a field that is not whole, has the wrong bytes, or the right ones
module _ {T : Type 0} (κ : Kind) (t : Telling (Value κ) T) (s : List ℕ) (p w q : ℕ) (wide : width κ ≡ w) where
  pub leaf_short : leb (p + w) (length s) ≡ false → Err (refusal_of 1 p) ≡ of_field t p q (look_at κ s p)
  unfolding of_field number_of
  leaf_short e = rw (not_whole κ s p w wide e)

  pub leaf_wrong : leb (p + w) (length s) ≡ true → (z : Reason) → judge κ (take w (drop p s)) ≡ lacks z → Err (refusal_at z p) ≡ of_field t p q (look_at κ s p)
  unfolding of_field
  leaf_wrong e z j = rw (is_whole κ s p w wide e, j)

  pub leaf_right : leb (p + w) (length s) ≡ true → (v : Value κ) → judge κ (take w (drop p s)) ≡ has v → Ok (t v q) ≡ of_field t p q (look_at κ s p)
  unfolding of_field
  leaf_right e v j = rw (is_whole κ s p w wide e, j)

-- the bytes of a whole field
module _ (s : List ℕ) (p w : ℕ) (e : leb (p + w) (length s) ≡ true) where
  pub ends_inside : p + w ≤ length s
  ends_inside = leb-true (p + w) (length s) e

  pub field_length : length (take w (drop p s)) ≡ w
  field_length = let h = ends_inside in length-take-le w (drop p s) (simp length-drop (omega arith))

pub eqb_turn : (a b : ℕ) → eqb a b ≡ eqb b a
eqb_turn a b = by (eqb b a) refl
  where
    by : (t : Bool) → eqb b a ≡ t → eqb a b ≡ t
    by true e = eq-eqb a b (sym (eqb-true b a e))
    by false e = ne_eqb a b (λ q. eqb-false b a e (sym q))

same_fill : (b : ℕ) (f : List ℕ) → same (replicate (length f) b) f ≡ every (λ x. eqb x b) f
same_fill b [] = refl
same_fill b (x ∷ xs) = rw (eqb_turn b x, same_fill b xs)

-- a field of w bytes b: whether every byte is b
pub judge_fill : (b w : ℕ) (f : List ℕ) → length f ≡ w → judge (fixed (replicate w b)) f ≡ if_so (every (λ x. eqb x b) f) tt not_fixed
unfolding judge
judge_fill b w f l = rw (← l, same_fill b f)

-- a field of blanks or a number: whether every byte is a blank
pub judge_maybe : (w : ℕ) (f : List ℕ) → length f ≡ w → judge (maybe w) f ≡ optional (every (λ x. eqb x 0x20) f) f
unfolding judge
judge_maybe w f l = rw (← l, same_fill 0x20 f)

-- a text of 27 signs
module _ (s : List ℕ) (p : ℕ) (e : leb (p + 27) (length s) ≡ true) where
  pub text_not : every sign (take 27 (drop p s)) ≡ false → look_at text27 s p ≡ lacks not_sign
  unfolding judge
  text_not i = rw (is_whole text27 s p 27 refl e, i)

  pub text_has : every sign (take 27 (drop p s)) ≡ true → look_at text27 s p ≡ has (take 27 (drop p s))
  unfolding judge
  text_has i = rw (is_whole text27 s p 27 refl e, i)

-- ---- then the rules

module _ {T : Type 0} (κ : Kind) (t : Telling (Value κ) T) (rs : Value κ → List Rule) (f : List ℕ) (p q : ℕ) where
  -- bytes that refuse a field refuse it whatever its rules
  pub field_fails : {r : Refusal} → Fails (look_at κ f p) p r → Err r ≡ of_field t p q (field_at κ rs f p)
  unfolding of_field
  field_fails x = rw (x.lack, x.refusal)

  pub field_broken : {v : Value κ} {n : ℕ} → look_at κ f p ≡ has v → obey (rs v) v ≡ lacks (breaks n) → Err (refusal_of n p) ≡ of_field t p q (field_at κ rs f p)
  unfolding of_field number_of
  field_broken content broken = rw (content, broken)

  pub field_holds : {v : Value κ} → look_at κ f p ≡ has v → obey (rs v) v ≡ has v → Ok (t v q) ≡ of_field t p q (field_at κ rs f p)
  unfolding of_field
  field_holds content kept = rw (content, kept)

-- ---- a number with rules, behind its digits

module _ {T : Type 0} (w : ℕ) (t : Telling ℕ T) (rs : ℕ → List Rule) (f : List ℕ) (p n : ℕ) where
  -- a number that is refused is refused whatever its rules
  pub ruled_refused : {r : Refusal} → ◌≡◌ {A = Reading (ℕ × ℕ)} (Err r) (of_field numbers p n (look_at (digits w) f p)) → Err r ≡ of_field t p n (field_at (digits w) rs f p)
  ruled_refused told = field_fails (digits w) t rs f p n (fails numbers p n (look_at (digits w) f p) told refl)

  module _ {v q : ℕ} (told : ◌≡◌ {A = Reading (ℕ × ℕ)} (Ok (v, q)) (of_field numbers p n (look_at (digits w) f p))) where
    pub ruled_broken : {i : ℕ} → obey (rs v) v ≡ lacks (breaks i) → Err (refusal_of i p) ≡ of_field t p n (field_at (digits w) rs f p)
    ruled_broken broken = field_broken (digits w) t rs f p n (number_is p n (look_at (digits w) f p) told refl).0 broken

    pub ruled_kept : obey (rs v) v ≡ has v → Ok (t v q) ≡ of_field t p n (field_at (digits w) rs f p)
    ruled_kept kept =
        let s = number_is p n (look_at (digits w) f p) told refl in
        rw (s.1) (field_holds (digits w) t rs f p n s.0 kept)

-- ---- a text, by what its leaf tells: whether it is blank

module _ (f : List ℕ) (p n : ℕ) where
  pub text_refused : {r : Refusal} → ◌≡◌ {A = Reading (Bool × ℕ)} (Err r) (of_field texts p n (look_at text27 f p)) → Err r ≡ of_field passings p n (look_at text27 f p)
  unfolding of_field
  text_refused {r} told = by (look_at text27 f p) told
    where
      by : (l : Look (List ℕ)) → ◌≡◌ {A = Reading (Bool × ℕ)} (Err r) (of_field texts p n l) → Err r ≡ of_field passings p n l
      by (has v) e = absurd cc
      by (lacks z) e = let i : r ≡ refusal_at z p = cc in rw i

  module _ {b : Bool} {q : ℕ} (told : ◌≡◌ {A = Reading (Bool × ℕ)} (Ok (b, q)) (of_field texts p n (look_at text27 f p))) where
    pub text_kept : Ok q ≡ of_field passings p n (look_at text27 f p)
    unfolding of_field
    text_kept = let s = stands texts p n (look_at text27 f p) told refl in rw (ap (λ (x : Bool × ℕ). x.1) s.given, s.content)

    is_blank : (v : List ℕ) × (look_at text27 f p ≡ has v) × (q ≡ n) × (every (λ x. eqb x 0x20) v ≡ b)
    unfolding signs_of
    is_blank =
        let s = stands texts p n (look_at text27 f p) told refl in
        (s.value, s.content, ap (λ (x : Bool × ℕ). x.1) s.given, sym (ap (λ (x : Bool × ℕ). x.0) s.given))

    -- a name is a text that is not blank
    pub name_broken : b ≡ true → Err (refusal_of 11 p) ≡ of_field passings p n (field_at text27 rules_of_names f p)
    name_broken e = field_broken text27 passings rules_of_names f p n is_blank.1 (rw (is_blank.3 ∙ e))

    pub name_kept : b ≡ false → Ok q ≡ of_field passings p n (field_at text27 rules_of_names f p)
    name_kept e = rw is_blank.2 (field_holds text27 passings rules_of_names f p n is_blank.1 (rw (is_blank.3 ∙ e)))
