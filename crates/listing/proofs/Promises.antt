-- Listing and composing are each other's way back: listings compose to legal documents and to nothing else, and files and listings come round.
-- The printed lines are parted again and composed one by one (`header_composes`, `payments_compose`); the lines that were composed are those of
-- a legal header and of payments that are good after none (`header_heard`, `payments_heard`), and joined they are the listing. Legal documents
-- are just these (`legal_good`, `good_legal`). With files it comes round because an accepted file is its document written out.
use Prim.Native.Nat.{ℕ, suc}
use native.Mathlib.Omega.{arith}
use mathlib.Core.Path.{◌≡◌, refl, sym, ap, ◌∙◌, subst}
use mathlib.Core.Logic.{◌↔◌}
use mathlib.Core.List.{List, [], ◌∷◌, ◌++◌}
use lib.ListN.{length}
use Rattle.form.specs.Reader.{accepted}
use Rattle.form.proofs.RulesLaws.{accepted_legal}
use Rattle.verdict.specs.Verdicts.{refusing}
use Rattle.document.specs.Signs.{ascii}
use Rattle.document.specs.Values.{Document, no_totals}
use Rattle.document.specs.Rules.{most_payments, Legal}
use Rattle.diskette.specs.Writing.{write}
use Rattle.diskette.specs.Fields.{document}
use Rattle.diskette.specs.Answer.{answer}
use Rattle.diskette.proofs.GoodLaws.{within_none, legal_good, good_legal}
use Rattle.diskette.proofs.FileSays.{document_says}
use Rattle.diskette.proofs.Promises.{accepted_reading}
use Rattle.listing.specs.Lines.{tab, line_end, behind_tabs, split, empty}
use Rattle.listing.specs.Listing.{header_fields, payment_lines, listing}
use Rattle.listing.specs.Composing.{made, denied, compose_header, compose_payments, compose_lines, compose}
use Rattle.listing.proofs.LineLaws.{split_some, join, join_split, fields_parted, line_parted, line_joined}
use Rattle.listing.proofs.ComposingLaws.{made_or_denied, provided_made, and_then_made}
use Rattle.listing.proofs.HeaderLaws.{header_clear, header_composes, header_heard}
use Rattle.listing.proofs.LinesLaws.{lines_step, payments_compose, payments_heard}

-- The listing of a legal document composes to that document.
pub listing_composes : (d : Document) → Legal d → compose (listing d) ≡ made d
unfolding compose
listing_composes d l =
    let h = d.header in
    let ps = d.payments in
    let kind = h.file_kind in
    let clear = header_clear h l.header in
    let x = ascii "A" ++ behind_tabs (header_fields h) in
    ap compose_lines (line_parted (ascii "A") (header_fields h) (payment_lines ps) (tt, clear.1))
    ∙ lines_step x (split line_end (payment_lines ps)) (split_some line_end (payment_lines ps))
    ∙ rw (
      fields_parted (ascii "A") (header_fields h) (tt, clear.0),
      header_composes h l.header,
      payments_compose most_payments kind no_totals (suc (length x)) ps (omega arith) (legal_good d l),
    )

-- A listing that composes is the listing of the document that it composes to, and that document is legal.
pub composed_listing : (l : List ℕ) (d : Document) → compose l ≡ made d → Legal d × (listing d ≡ l)
unfolding compose compose_lines
composed_listing l d e = by (split line_end l) (join_split line_end l) e
  where
    by : (xs : List (List ℕ)) → join line_end xs ≡ l → compose_lines xs ≡ made d → Legal d × (listing d ≡ l)
    by [] j e = absurd (made_or_denied (sym e))
    by (x ∷ []) j e = absurd (made_or_denied (sym (provided_made (empty x) (refusing 17 0) (denied (refusing 18 0)) d e).1))
    by (x ∷ y ∷ ys) j e =
        let a = and_then_made (compose_header (split tab x)) _ d e in
        let h = header_heard (split tab x) a.0 a.1 in
        let kind = a.0.file_kind in
        let b = and_then_made (compose_payments kind no_totals (suc (length x)) (y ∷ ys)) _ d a.2 in
        let i = payments_heard most_payments kind no_totals (suc (length x)) (y ∷ ys) b.0 (omega arith) within_none b.1 in
        let all : record { header = a.0; payments = b.0 } ≡ d = cc in
        subst (λ (z : Document). Legal z × (listing z ≡ l)) all (
          good_legal (record { header = a.0; payments = b.0 }) h.0 i.0,
          sym (line_joined x (ascii "A") (header_fields a.0) (join line_end (y ∷ ys)) (payment_lines b.0) h.1 i.1) ∙ j,
        )

-- Exactly the listings of legal documents compose, each to its document.
pub composes_exactly : (l : List ℕ) (d : Document) → (compose l ≡ made d) ↔ (Legal d × (listing d ≡ l))
composes_exactly l d = (composed_listing l d, λ x. ap compose (sym x.1) ∙ listing_composes d x.0)

-- The listing of an accepted file composes to that file, byte for byte.
pub file_round : (f : List ℕ) (d : Document) → answer f ≡ accepted d → (compose (listing d) ≡ made d) × (write d ≡ f)
unfolding answer
file_round f d e = let l = accepted_legal document Legal write document_says f d e in (listing_composes d l.0, l.1)

-- A composed file is accepted as what it was composed from, and its listing is the listing that it was composed from.
pub listing_round : (l : List ℕ) (d : Document) → compose l ≡ made d → (answer (write d) ≡ accepted d) × (listing d ≡ l)
listing_round l d e = let h = composed_listing l d e in (accepted_reading (write d) (d, h.0, refl), h.1)

-- Two legal documents with the same listing are the same.
pub one_listing : (c d : Document) → Legal c → Legal d → listing c ≡ listing d → c ≡ d
one_listing c d k l e =
    let a = listing_composes c k in
    let b = listing_composes d l in
    let same : made c ≡ made d = sym a ∙ ap compose e ∙ b in
    cc
