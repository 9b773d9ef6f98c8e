-- line_reader::names_at meets its contract: three texts, one behind the other.
use native.Mathlib.Omega.{arith}
use Rattle.line_reader.proofs.TextLaws.{text_on}
use Rattle.line_reader.proofs.SeenLaws.{none_first, none_behind_first, none_second, names_seen}
use Rattle.line_reader.proofs.names_at.Goals as goal

pub returns-in_err-tab_of_c15 : goal.returns-in_err-tab_of_c15
returns-in_err-tab_of_c15 c = rw c.from_residual.ensures (λ e t. c.in_err-tab_of_c15.ensures t.first t.C14a)

pub overflow_sub-tab_of_c15 : goal.overflow_sub-tab_of_c15
overflow_sub-tab_of_c15 c = omega (arith, text_on c.in_ok-tab_of_c15.ensures)

pub returns-then-tab_of_c15-q-lt2 : goal.returns-then-tab_of_c15-q-lt2
returns-then-tab_of_c15-q-lt2 c = none_first c.in_ok-tab_of_c15.ensures (omega (arith, text_on c.in_ok-tab_of_c15.ensures))

pub returns-in_err-tab_of_c16 : goal.returns-in_err-tab_of_c16
returns-in_err-tab_of_c16 c =
    rw c.from_residual-in_err-tab_of_c16.ensures (none_behind_first c.in_ok-tab_of_c15.ensures c.in_err-tab_of_c16.ensures)

pub overflow_sub-tab_of_c16 : goal.overflow_sub-tab_of_c16
overflow_sub-tab_of_c16 c = omega (arith, text_on c.in_ok-tab_of_c16.ensures)

pub returns-then-tab_of_c16-tab_of_c15-lt2 : goal.returns-then-tab_of_c16-tab_of_c15-lt2
returns-then-tab_of_c16-tab_of_c15-lt2 c =
    none_second c.in_ok-tab_of_c15.ensures c.in_ok-tab_of_c16.ensures (omega (arith, text_on c.in_ok-tab_of_c16.ensures))

pub returns : goal.returns
returns c =
    names_seen c.in_ok-tab_of_c15.ensures c.in_ok-tab_of_c16.ensures (omega arith) (omega arith) c.text_at-3.result c.text_at-3.ensures
