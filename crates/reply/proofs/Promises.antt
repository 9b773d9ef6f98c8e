-- What the statements of `list` and `make` come to: each admits one answer, with which the output begins; what it says to which input; in an
-- output of 42 bytes nothing of it is cut; and in one of 32,768 bytes each acceptable file of as many bytes at most is listed and comes back.
-- A reply is printed from how the call beneath ends, so each law is what is proved of `lister::list` or `composer::compose` put into the
-- definition of the reply: too long, refused, without room, written (`reply_too_long`, `reply_refused`, `reply_written`). No line of a refusal
-- has more than 42 bytes (`line_short`), and what a call writes has room by its own test, so with 42 bytes nothing is cut (`whole_reply`). A
-- listing is no longer than its file: with 32,768 bytes there is room for both, and the two replies together are the round trip (`comes_back`).
use Prim.Native.Nat.{ℕ, ◌≤◌, ◌<◌}
use native.Mathlib.Omega.{arith}
use mathlib.Core.Path.{◌≡◌, refl, sym, ap, subst, ◌∙◌}
use mathlib.Core.Bool.{Bool, true, false, cond}
use mathlib.Core.List.{List}
use lib.ListN.{length, take, drop, length-append}
use lib.Dec.{leb}
use borrow.Author.Tests.{leb-true}
use Rattle.form.specs.Kind.{numeral}
use Rattle.verdict.specs.declared.Verdict.{Verdict}
use Rattle.verdict.specs.Verdicts.{refusing}
use Rattle.verdict.proofs.LentLaws.{filled_first, filled_behind}
use Rattle.document.specs.Values.{Document}
use Rattle.document.specs.Rules.{Legal}
use Rattle.diskette.specs.Writing.{write, Acceptable}
use Rattle.diskette.specs.Answer.{answer, outcome}
use Rattle.diskette.proofs.Promises.{zero_exactly}
use Rattle.listing.specs.Listing.{listing}
use Rattle.listing.specs.Composing.{denied, compose}
use Rattle.listing.specs.Endings.{Ending, writes, refuses, listed, composed, within, written}
use Rattle.listing.proofs.Promises.{listing_composes}
use Rattle.lister.proofs.ListingLaws.{listed_as, listing_short}
use Rattle.lister.proofs.ListLaws.{else_refused}
use Rattle.composer.proofs.CallLaws.{made_ends, denied_ends}
use Rattle.output.proofs.EndingLaws.{too_short, stays_refused}
use Rattle.reply.specs.Reply.{digits_within, refusal_line, printed, limited, fitting, reply, list_reply, make_reply}
use Rattle.reply.proofs.LineLaws.{Says, fits, line_short}
use Rattle.reply.proofs.ReplyLaws.{reply_too_long, reply_refused, reply_written}

-- ---- what is said of the output

module _ (bs old : List ℕ) where
  -- one length, and one content of the output
  one_answer : (r s : ℕ) (a b : List ℕ) → Says bs old r a → Says bs old s b → (r ≡ s) × (a ≡ b)
  one_answer r s a b d e = (d.0 ∙ sym e.0, d.1 ∙ sym e.1)

  module _ (r : ℕ) (new : List ℕ) (says : Says bs old r new) where
    -- the output begins with the reply, and is behind it as it was
    pub reply_is : take r new ≡ bs
    reply_is = filled_first bs old says.0 says.1

    -- the reply lies in the output, so that it can be lent to be printed
    pub reply_inside : r ≤ length new
    reply_inside = omega (arith, says.0, ap length says.1, length-append bs (drop (length bs) old))

    pub tail_is : drop r new ≡ drop r old
    tail_is = filled_behind bs old says.0 says.1

-- what `list` and `make` ensure of their result and of the output, for the input and what the output held before
abbrev pub ListSays : List ℕ → List ℕ → ℕ → List ℕ → Type 0
ListSays file old r new = Says (list_reply (length old) file) old r new

abbrev pub MakeSays : List ℕ → List ℕ → ℕ → List ℕ → Type 0
MakeSays l old r new = Says (make_reply (length old) l) old r new

pub list_one_answer : (file old : List ℕ) (r s : ℕ) (a b : List ℕ) → ListSays file old r a → ListSays file old s b → (r ≡ s) × (a ≡ b)
list_one_answer file old = one_answer (list_reply (length old) file) old

pub make_one_answer : (l old : List ℕ) (r s : ℕ) (a b : List ℕ) → MakeSays l old r a → MakeSays l old s b → (r ≡ s) × (a ≡ b)
make_one_answer l old = one_answer (make_reply (length old) l) old

-- ---- nothing of the reply is cut

module _ (room : ℕ) (h : 42 ≤ room) where
  line_whole : (n p : ℕ) → fitting room (refusal_line n p) ≡ refusal_line n p
  line_whole n p = fits room (refusal_line n p) (omega (arith, line_short n p))

  fits_within : (e : Ending) → length (printed (within room e)) ≤ room
  unfolding within
  fits_within (refuses v) = omega (arith, line_short v.number v.place)
  fits_within (writes bs) = by (leb (length bs) room) refl
    where
      by : (b : Bool) → leb (length bs) room ≡ b → length (printed (cond b (writes bs) (refuses (refusing 16 0)))) ≤ room
      by true i = leb-true (length bs) room i
      by false i = omega (arith, line_short 16 0)

  pub whole_reply : (input : List ℕ) (e : Ending) → reply room input e ≡ printed (limited input (within room e))
  unfolding limited
  whole_reply input e = fits room (printed (limited input (within room e))) (by (leb (length input) 32768))
    where
      by : (b : Bool) → length (printed (cond b (within room e) (refuses (refusing 20 32768)))) ≤ room
      by true = fits_within e
      by false = omega (arith, line_short 20 32768)

-- ---- to which input which reply

module _ (room : ℕ) where
  -- an input that is too long, whatever it holds
  pub too_long : (input : List ℕ) → 32768 < length input → 9 ≤ room
      → (list_reply room input ≡ refusal_line 20 32768) × (make_reply room input ≡ refusal_line 20 32768)
  unfolding digits_within numeral
  too_long input l h =
      let whole = fits room (refusal_line 20 32768) h in
      (reply_too_long room input (listed (answer input)) l ∙ whole, reply_too_long room input (composed (compose input)) l ∙ whole)

  module _ (file : List ℕ) (l : length file ≤ 32768) where
    abbrev end : Ending
    end = listed (answer file)

    -- an acceptable file that there is room to list
    pub lists : (x : Acceptable file) → length (listing x.0) ≤ room → list_reply room file ≡ listing x.0
    lists x = reply_written room file end l (listed_as file x)

    -- an acceptable file that there is no room to list
    pub lists_not : 42 ≤ room → (x : Acceptable file) → room < length (listing x.0) → list_reply room file ≡ refusal_line 16 0
    lists_not h x k = reply_refused room file end l (too_short room (listed_as file x) k) ∙ line_whole room h 16 0

    -- a file that is not acceptable
    pub refuses_file : 42 ≤ room → ¬ Acceptable file → let v = (outcome (answer file)).verdict in list_reply room file ≡ refusal_line v.number v.place
    refuses_file h n =
        let v = (outcome (answer file)).verdict in
        reply_refused room file end l (stays_refused room (else_refused file n)) ∙ line_whole room h v.number v.place

  -- the listing of a legal document whose file there is room for
  pub makes : (d : Document) → Legal d → length (listing d) ≤ 32768 → length (write d) ≤ room → make_reply room (listing d) ≡ write d
  makes d g l = reply_written room (listing d) (composed (compose (listing d))) l (made_ends (listing_composes d g))

  -- the listing of a legal document whose file there is no room for
  pub makes_not : 42 ≤ room → (d : Document) → Legal d → length (listing d) ≤ 32768 → room < length (write d)
      → make_reply room (listing d) ≡ refusal_line 16 0
  makes_not h d g l k =
      let e = composed (compose (listing d)) in
      reply_refused room (listing d) e l (too_short room (made_ends (listing_composes d g)) k) ∙ line_whole room h 16 0

  -- a listing that is refused
  pub refuses_listing : 42 ≤ room → (input : List ℕ) → length input ≤ 32768 → (v : Verdict) → compose input ≡ denied v
      → make_reply room input ≡ refusal_line v.number v.place
  refuses_listing h input l v i =
      let e = composed (compose input) in
      reply_refused room input e l (stays_refused room (denied_ends i)) ∙ line_whole room h v.number v.place

  -- ---- there and back, through an output as long as the longest input

  module _ (h : 32768 ≤ room) (file : List ℕ) (x : Acceptable file) (l : length file ≤ 32768) where
    short : length (listing x.0) ≤ length file
    short =
        subst (λ e. length (written e) ≤ length file) (listed_as file x)
        (listing_short (outcome (answer file)).totals.count file ((zero_exactly file).1 x, refl))

    -- a listing is no longer than its file, so there is room for it
    pub always_lists : list_reply room file ≡ listing x.0
    always_lists = let s = short in lists file l x (omega arith)

    pub comes_back : make_reply room (list_reply room file) ≡ file
    comes_back =
        let s = short in
        let long : length (write x.0) ≡ length file = ap length x.2 in
        ap (make_reply room) always_lists ∙ makes x.0 x.1 (omega arith) (omega arith) ∙ x.2
