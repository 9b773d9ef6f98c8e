-- The payments that may still come, after payments that come to t: what the rules ask of them, parted into what is asked of the first and of
-- the others, and joined again. Those that may come after none are the payments of a legal document.
use Prim.Native.Nat.{ℕ, suc, ◌+◌, ◌≤◌, ◌<◌}
use native.Mathlib.Omega.{arith}
use mathlib.Core.Path.{refl}
use mathlib.Core.List.{List, [], ◌∷◌}
use lib.ListN.{length}
use Rattle.document.specs.Values.{Payment, Document, Totals, no_totals, adding, totals}
use Rattle.document.specs.Rules.{All, most_payments, most_cents, sum_limit, LegalHeader, LegalPayment, Legal}
use Rattle.document.proofs.FieldLaws.{at_least_one}
use Rattle.diskette.specs.Writing.{length_of}
use Rattle.diskette.proofs.PaymentSays.{GoodPayment}
use Rattle.diskette.proofs.EndSays.{Within}

-- left: how many may still come
pub record GoodFrom (left : ℕ) (kind : List ℕ) (t : Totals) (ps : List Payment) : Type 0 where
  pub legal : All (LegalPayment kind) ps
  pub some : 1 ≤ t.count + length ps
  pub count : length ps ≤ left
  pub accounts : t.accounts + (totals ps).accounts < sum_limit
  pub bank_codes : t.bank_codes + (totals ps).bank_codes < sum_limit
  pub cents : t.cents + (totals ps).cents ≤ most_cents

-- ---- one by one

-- after at least one payment none need come
pub none_good : (left : ℕ) (kind : List ℕ) (t : Totals) → 1 ≤ t.count → Within t → GoodFrom left kind t []
none_good left kind t h w =
    record {
      legal = tt;
      some = omega arith;
      count = omega arith;
      accounts = omega (arith, w.accounts);
      bank_codes = omega (arith, w.bank_codes);
      cents = omega (arith, w.cents);
    }

module _ (left : ℕ) (kind : List ℕ) (t : Totals) (p : Payment) (ps : List Payment) where
  pub good_first : GoodFrom (suc left) kind t (p ∷ ps) → GoodPayment kind t (length_of (length p.parts)) p
  good_first g =
      record { legal = g.legal.0; accounts = omega (arith, g.accounts); bank_codes = omega (arith, g.bank_codes); cents = omega (arith, g.cents); long = refl }

  pub good_others : GoodFrom (suc left) kind t (p ∷ ps) → GoodFrom left kind (adding t p) ps
  good_others g =
      record {
        legal = g.legal.1;
        some = omega arith;
        count = omega (arith, g.count);
        accounts = omega (arith, g.accounts);
        bank_codes = omega (arith, g.bank_codes);
        cents = omega (arith, g.cents);
      }

  pub good_both : LegalPayment kind p → GoodFrom left kind (adding t p) ps → GoodFrom (suc left) kind t (p ∷ ps)
  good_both l g =
      record {
        legal = (l, g.legal);
        some = omega arith;
        count = omega (arith, g.count);
        accounts = omega (arith, g.accounts);
        bank_codes = omega (arith, g.bank_codes);
        cents = omega (arith, g.cents);
      }

-- with a payment that may come, the totals are still such as E can hold
pub within_next : {kind : List ℕ} {t : Totals} {l : ℕ} {p : Payment} → GoodPayment kind t l p → Within (adding t p)
within_next g = record { accounts = g.accounts; bank_codes = g.bank_codes; cents = g.cents }

-- a payment that may come has at least a cent
pub below_top : {kind : List ℕ} {t : Totals} {l : ℕ} {p : Payment} → GoodPayment kind t l p → t.cents < most_cents
below_top {p = p} g = omega (arith, g.cents, at_least_one p.cents g.legal.c12_some)

-- ---- the payments of a document, after none

pub within_none : Within no_totals
within_none = record { accounts = omega arith; bank_codes = omega arith; cents = omega arith }

pub legal_good : (d : Document) → Legal d → GoodFrom most_payments d.header.file_kind no_totals d.payments
legal_good d l =
    record {
      legal = l.payments;
      some = omega (arith, l.some);
      count = l.count;
      accounts = omega (arith, l.accounts);
      bank_codes = omega (arith, l.bank_codes);
      cents = omega (arith, l.cents);
    }

pub good_legal : (d : Document) → LegalHeader d.header → GoodFrom most_payments d.header.file_kind no_totals d.payments → Legal d
good_legal d h g =
    record {
      header = h;
      payments = g.legal;
      some = omega (arith, g.some);
      count = g.count;
      accounts = omega (arith, g.accounts);
      bank_codes = omega (arith, g.bank_codes);
      cents = omega (arith, g.cents);
    }
