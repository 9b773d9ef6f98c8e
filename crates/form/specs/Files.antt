-- Forms of one kind end to end, one at least: what they say and how it is written out; and their reader, for which the next form begins where
-- one ends and bytes follow.
use Rattle.std.specs.Prelude.{ℕ, zero, suc, ◌≤◌, Bool, true, false, List, [], ◌∷◌, ◌++◌, length, leb}
use Rattle.form.specs.Form.{Form}
use Rattle.form.specs.Reader.{Answer, accepted, refused}
use Rattle.form.specs.Place.{Read, done, halt, read_at}

-- ---- values one after another. Nothing here reads

-- all entries of a list are so
abbrev pub All : {A : Type 0} → (A → Type 0) → List A → Type 0
All P [] = Unit {0}
All P (x ∷ xs) = P x × All P xs

-- one at least, and each of them legal
pub record LegalFiles {A : Type 0} (Legal : A → Type 0) (xs : List A) : Type 0 where
  pub some : 1 ≤ length xs
  pub each : All Legal xs

-- each written out, with nothing between them
abbrev pub write_each : {A : Type 0} → (A → List ℕ) → List A → List ℕ
write_each write [] = []
write_each write (x ∷ xs) = write x ++ write_each write xs

-- ---- the reader

-- the first, and what was read behind it
abbrev pub and_those : {N A : Type 0} → A → Answer N (List A) → Answer N (List A)
and_those a (accepted xs) = accepted (a ∷ xs)
and_those a (refused r) = refused r

-- it is the last, or others follow
abbrev pub if_last : {N A : Type 0} → Bool → A → Answer N (List A) → Answer N (List A)
if_last true a others = accepted (a ∷ [])
if_last false a others = and_those a others

abbrev pub and_next : {N A : Type 0} → Read N A → (A → ℕ → Answer N (List A)) → Answer N (List A)
and_next (done a q) k = k a q
and_next (halt r) k = refused r

-- the forms from place p on, of which so many can come behind the first
unfoldable pub files_at : {N A : Type 0} → ℕ → Form N A → List ℕ → ℕ → Answer N (List A)
files_at zero m f p = and_next (read_at m f p) (λ a q. accepted (a ∷ []))
files_at (suc more) m f p = and_next (read_at m f p) (λ a q. if_last (leb (length f) q) a (files_at more m f q))

-- the answer to all of the bytes: each form has a byte at least, so no more of them can come than there are bytes
unfoldable pub run_files : {N A : Type 0} → Form N A → List ℕ → Answer N (List A)
run_files m f = files_at (length f) m f 0
