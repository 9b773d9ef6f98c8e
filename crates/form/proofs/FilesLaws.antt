-- Forms end to end: accepted exactly where legal values are written out one after another, in one way only; a refusal names the right place.
-- One induction over the forms that can still come says what an answer tells (`files_tell`): the values that were read, which stand there written
-- out, or a refusal, with the values that were read whole before it and the place where the refused one begins (`RefusedBehind`). The other way
-- round goes by induction over the values: those that stand there are read (`files_complete`), and behind them a refusal is met (`past_files`).
-- The bytes ahead of a refused field are then the whole values, and the beginning of one more that a single form gives (`ahead_legal`). The
-- bytes through it begin none: in whatever begins with them the whole values are read, and then the same refusal is met, since it rests on no byte
-- behind the field (`read_shared`).
use Prim.Native.Nat.{ℕ, zero, suc, ◌+◌, ◌≤◌, ◌<◌}
use native.Mathlib.Omega.{arith}
use mathlib.Core.Path.{◌≡◌, refl, sym, ap, ◌∙◌}
use mathlib.Core.Logic.{◌≢◌}
use mathlib.Core.Bool.{Bool, true, false}
use mathlib.Core.List.{List, [], ◌∷◌, ◌++◌, append_assoc, append-nil}
use lib.ListN.{length, take, drop, length-append, length-drop, take-append-drop, drop_of_length-le}
use lib.Seq.{drop_at, drop-drop, take-add, take_at}
use lib.Dec.{leb}
use borrow.Author.Tests.{le-leb, lt-leb, leb-true, leb-false}
use Rattle.form.specs.Form.{Form, Viable}
use Rattle.form.specs.Reader.{short, Refusal, Answer, accepted, refused, run}
use Rattle.form.specs.Place.{Read, done, halt, read_at}
use Rattle.form.specs.Files.{All, LegalFiles, write_each, and_those, if_last, and_next, files_at, run_files}
use Rattle.form.proofs.AnswerLaws.{accepted_or_refused}
use Rattle.form.proofs.ReaderLaws.{behind}
use Rattle.form.proofs.PlaceLaws.{run_place}
use Rattle.form.proofs.ReachLaws.{reach, halt_whole, Same, shared_long, shared_part, read_shared}
use Rattle.form.proofs.RulesLaws.{Says, read_legal, legal_read, ahead_legal}

-- ---- lists of values

pub all_append : {A : Type 0} (P : A → Type 0) (xs ys : List A) → All P xs → All P ys → All P (xs ++ ys)
all_append P [] ys h g = g
all_append P (x ∷ xs) ys h g = (h.0, all_append P xs ys h.1 g)

pub write_append : {A : Type 0} (write : A → List ℕ) (xs ys : List A) → write_each write (xs ++ ys) ≡ write_each write xs ++ write_each write ys
write_append write [] ys = refl
write_append write (x ∷ xs) ys =
    ap (λ bs. write x ++ bs) (write_append write xs ys) ∙ sym (append_assoc (write x) (write_each write xs) (write_each write ys))

-- ---- bytes that stand at a place

-- bytes that stand at p, with q behind them, are those between p and q
pub lies_between : (f bs : List ℕ) (p q : ℕ) → p ≤ length f → q ≤ length f → drop p f ≡ bs ++ drop q f → q ≡ p + length bs
lies_between f bs p q h g e = let l = simp (length-drop, length-append) at (ap length e) in omega arith

-- bytes and others that stand at p: the others stand behind them
pub stands_behind : (f a rest : List ℕ) (p : ℕ) → drop p f ≡ a ++ rest → drop (p + length a) f ≡ rest
stands_behind f a rest p e = sym (drop-drop (length a) p f) ∙ rw (e, drop_at a rest (length a) refl)

module _ {N A : Type 0} (m : Form N A) (grows : (f : List ℕ) (p : ℕ) → p < reach (read_at m f p))
    (Legal : A → Type 0) (write : A → List ℕ) (says : Says m Legal write) where
  -- ---- what an answer tells

  -- values were read whole, and the form that begins behind them is refused
  pub record RefusedBehind (f : List ℕ) (p : ℕ) (r : Refusal N) : Type 0 where
    pub whole : List A
    pub begins : ℕ
    pub legal : All Legal whole
    pub bytes : drop p f ≡ write_each write whole ++ drop begins f
    pub inside : begins ≤ length f
    pub halts : read_at m f begins ≡ halt r

  -- of the bytes from p on
  abbrev Tells : List ℕ → ℕ → Answer N (List A) → Type 0
  Tells f p (accepted xs) = LegalFiles Legal xs × (drop p f ≡ write_each write xs)
  Tells f p (refused r) = RefusedBehind f p r

  refused_first : (f : List ℕ) (p : ℕ) (r : Refusal N) → p ≤ length f → read_at m f p ≡ halt r → RefusedBehind f p r
  refused_first f p r h i = record { whole = []; begins = p; legal = tt; bytes = refl; inside = h; halts = i }

  module _ (f : List ℕ) (p q : ℕ) (a : A) (i : read_at m f p ≡ done a q) where
    tells_last : length f ≤ q → Tells f p (accepted (a ∷ []))
    tells_last s =
        let l = read_legal m Legal write says f p q a i in
        (record { some = omega arith; each = (l.0, tt) }, l.1 ∙ ap (λ bs. write a ++ bs) (drop_of_length-le f s))

    tells_more : (x : Answer N (List A)) → Tells f q x → Tells f p (and_those a x)
    tells_more (accepted xs) t =
        let l = read_legal m Legal write says f p q a i in
        (record { some = omega arith; each = (l.0, t.0.each) }, l.1 ∙ ap (λ bs. write a ++ bs) t.1)
    tells_more (refused r) t =
        let l = read_legal m Legal write says f p q a i in
        record {
          whole = a ∷ t.whole;
          begins = t.begins;
          legal = (l.0, t.legal);
          bytes = l.1 ∙ ap (λ bs. write a ++ bs) t.bytes ∙ sym (append_assoc (write a) (write_each write t.whole) (drop t.begins f));
          inside = t.inside;
          halts = t.halts;
        }

  files_tell : (more : ℕ) (f : List ℕ) (p : ℕ) → p ≤ length f → length f ≤ p + more → Tells f p (files_at more m f p)
  unfolding files_at
  files_tell zero f p h l = by (read_at m f p) refl
    where
      by : (x : Read N A) → read_at m f p ≡ x → Tells f p (and_next x (λ a q. accepted (a ∷ [])))
      by (halt r) i = refused_first f p r h i
      by (done a q) i = let g : p < q = rw i at (grows f p) in tells_last f p q a i (omega arith)
  files_tell (suc more) f p h l = by (read_at m f p) refl (λ q inside enough. files_tell more f q inside enough)
    where
      last : (b : Bool) (a : A) (q : ℕ) → read_at m f p ≡ done a q → leb (length f) q ≡ b
          → ((q : ℕ) → q ≤ length f → length f ≤ q + more → Tells f q (files_at more m f q)) → Tells f p (if_last b a (files_at more m f q))
      last true a q i e others = tells_last f p q a i (leb-true (length f) q e)
      last false a q i e others =
          let g : p < q = rw i at (grows f p) in
          let s = leb-false (length f) q e in
          tells_more f p q a i (files_at more m f q) (others q (omega arith) (omega arith))

      by : (x : Read N A) → read_at m f p ≡ x → ((q : ℕ) → q ≤ length f → length f ≤ q + more → Tells f q (files_at more m f q))
          → Tells f p (and_next x (λ a q. if_last (leb (length f) q) a (files_at more m f q)))
      by (halt r) i others = refused_first f p r h i
      by (done a q) i others = last (leb (length f) q) a q i refl others

  -- ---- what stands there is read

  -- a legal value that stands at p is read there, and takes a byte at least
  pub legal_there : (a : A) → Legal a → (f rest : List ℕ) (p : ℕ) → p ≤ length f → drop p f ≡ write a ++ rest
      → (read_at m f p ≡ done a (p + length (write a))) × (p < p + length (write a)) × (p + length (write a) ≤ length f)
  legal_there a g f rest p h e =
      let q = p + length (write a) in
      let inside : q ≤ length f = omega (arith, length-drop p f, ap length e, length-append (write a) rest) in
      let i = legal_read m Legal write says f p q a h inside g (e ∙ ap (λ bs. write a ++ bs) (sym (stands_behind f (write a) rest p e))) in
      (i, rw i at (grows f p), inside)

  pub files_end : (more : ℕ) (f : List ℕ) (p q : ℕ) (a : A) → read_at m f p ≡ done a q → length f ≤ q → files_at more m f p ≡ accepted (a ∷ [])
  unfolding files_at
  files_end zero f p q a i s = rw i
  files_end (suc more) f p q a i s = rw (i, le-leb (length f) q s)

  pub files_more : (more : ℕ) (f : List ℕ) (p q : ℕ) (a : A) → read_at m f p ≡ done a q → q < length f
      → files_at (suc more) m f p ≡ and_those a (files_at more m f q)
  unfolding files_at
  files_more more f p q a i s = rw (i, lt-leb (length f) q s)

  pub files_halt : (more : ℕ) (f : List ℕ) (p : ℕ) (r : Refusal N) → read_at m f p ≡ halt r → files_at more m f p ≡ refused r
  unfolding files_at
  files_halt zero f p r i = rw i
  files_halt (suc more) f p r i = rw i

  files_complete : (xs : List A) (more : ℕ) (f : List ℕ) (p : ℕ) → LegalFiles Legal xs → p ≤ length f → length f ≤ p + more → drop p f ≡ write_each write xs
      → files_at more m f p ≡ accepted xs
  files_complete [] more f p g h l e = absurd (omega (arith, g.some))
  files_complete (a ∷ []) more f p g h l e =
      let t = legal_there a g.each.0 f [] p h e in
      files_end more f p (p + length (write a)) a t.0 (omega (arith, length-drop p f, ap length e, length-append (write a) []))
  files_complete (a ∷ b ∷ xs) zero f p g h l e = absurd (let t = legal_there a g.each.0 f _ p h e in omega arith)
  files_complete (a ∷ b ∷ xs) (suc more) f p g h l e =
      let q = p + length (write a) in
      let t = legal_there a g.each.0 f _ p h e in
      let others = stands_behind f (write a) (write_each write (b ∷ xs)) p e in
      let u = legal_there b g.each.1.0 f _ q t.2 others in
      files_more more f p q a t.0 (omega arith)
      ∙ ap (and_those a) (files_complete (b ∷ xs) more f q (record { some = omega arith; each = g.each.1 }) t.2 (omega arith) others)

  -- a refusal behind legal values
  past_files : (whole : List A) (more : ℕ) (f : List ℕ) (p q : ℕ) (r : Refusal N) → All Legal whole → p ≤ length f → length f ≤ p + more
      → drop p f ≡ write_each write whole ++ drop q f → q < length f → read_at m f q ≡ halt r → files_at more m f p ≡ refused r
  past_files [] more f p q r g h l e s i =
      let same : q ≡ p = lies_between f [] p q h (omega arith) e ∙ omega arith in
      files_halt more f p r (rw (← same) i)
  past_files (a ∷ xs) zero f p q r g h l e s i =
      absurd (let w = lies_between f (write_each write (a ∷ xs)) p q h (omega arith) e in omega arith)
  past_files (a ∷ xs) (suc more) f p q r g h l e s i =
      let stands : drop p f ≡ write a ++ (write_each write xs ++ drop q f) = e ∙ append_assoc (write a) (write_each write xs) (drop q f) in
      let t = legal_there a g.0 f _ p h stands in
      let others = stands_behind f (write a) (write_each write xs ++ drop q f) p stands in
      let w = lies_between f (write_each write xs) (p + length (write a)) q t.2 (omega arith) others in
      files_more more f p (p + length (write a)) a t.0 (omega arith)
      ∙ ap (and_those a) (past_files xs more f (p + length (write a)) q r g.1 t.2 (omega arith) others s i)

  -- ---- the whole input

  pub accepted_files : (f : List ℕ) (xs : List A) → run_files m f ≡ accepted xs → LegalFiles Legal xs × (write_each write xs ≡ f)
  unfolding run_files
  accepted_files f xs e =
      let t : Tells f 0 (accepted xs) = rw e at (files_tell (length f) f 0 (omega arith) (omega arith)) in
      (t.0, sym t.1)

  pub files_accepted : (f : List ℕ) (xs : List A) → LegalFiles Legal xs → write_each write xs ≡ f → run_files m f ≡ accepted xs
  unfolding run_files
  files_accepted f xs g e = files_complete xs (length f) f 0 g (omega arith) (omega arith) (sym e)

  -- cut in one way only
  pub one_cut : (xs ys : List A) → LegalFiles Legal xs → LegalFiles Legal ys → write_each write xs ≡ write_each write ys → xs ≡ ys
  one_cut xs ys g h e =
      let p = files_accepted (write_each write ys) xs g e in
      let q = files_accepted (write_each write ys) ys h refl in
      cc

  pub refused_behind : (f : List ℕ) (r : Refusal N) → run_files m f ≡ refused r → RefusedBehind f 0 r
  unfolding run_files
  refused_behind f r e = rw e at (files_tell (length f) f 0 (omega arith) (omega arith))

  module _ (f : List ℕ) (r : Refusal N) (b : RefusedBehind f 0 r) where
    -- the bytes ahead of the refused form are the values that were read whole
    pub whole_ahead : take b.begins f ≡ write_each write b.whole
    whole_ahead =
        let n = lies_between f (write_each write b.whole) 0 b.begins (omega arith) b.inside b.bytes in
        ap (take b.begins) b.bytes ∙ take_at (write_each write b.whole) (drop b.begins f) b.begins (omega arith)

    -- the bytes ahead of the refused field begin legal values written out
    pub ahead_files : Viable m → (rest : List ℕ) × (xs : List A) × LegalFiles Legal xs × (write_each write xs ≡ take r.place f ++ rest)
    ahead_files v =
        let k = behind b.begins (run m (drop b.begins f)) r (run_place m f b.begins b.inside ∙ rw b.halts) in
        let x = ahead_legal m Legal write says v (drop b.begins f) k.there k.given in
        let ws = write_each write b.whole in
        let start = take k.there.place (drop b.begins f) in
        let cut : take r.place f ≡ ws ++ start
        = ap (λ n. take n f) k.place ∙ take-add b.begins k.there.place f ∙ ap (λ bs. bs ++ start) whole_ahead in (
          x.0,
          b.whole ++ (x.1 ∷ []),
          record {
            some = omega (arith, length-append b.whole (x.1 ∷ []));
            each = all_append Legal b.whole (x.1 ∷ []) b.legal (x.2, tt);
          },
          write_append write b.whole (x.1 ∷ []) ∙ ap (λ bs. ws ++ bs) (append-nil (write x.1) ∙ x.3)
              ∙ sym (append_assoc ws start x.0) ∙ ap (λ bs. bs ++ x.0) (sym cut),
        )

    -- the bytes through the refused field begin none
    pub through_files : r.reason ≢ short → (rest : List ℕ) (xs : List A) → LegalFiles Legal xs → write_each write xs ≡ take (r.place + r.width) f ++ rest → ⊥
    unfolding run_files
    through_files z rest xs g w =
        let n = r.place + r.width in
        let inside = halt_whole m f b.begins r b.halts z in
        let other = Same f n rest in
        let long = shared_long f rest n inside in
        let before : b.begins < n = rw b.halts at (grows f b.begins) in
        let again : read_at m other b.begins ≡ halt r = read_shared f rest n inside m b.begins (rw b.halts (omega arith)) ∙ b.halts in
        let bytes : other ≡ write_each write b.whole ++ drop b.begins other
        = sym (take-append-drop b.begins other) ∙ ap (λ bs. bs ++ drop b.begins other) (shared_part f rest n inside 0 b.begins (omega arith) ∙ whole_ahead) in
        accepted_or_refused (sym (files_accepted other xs g w)
        ∙ past_files b.whole (length other) other 0 b.begins r b.legal (omega arith) (omega arith) bytes (omega arith) again)
