-- fields::text_at meets its contract: a text, of which nothing is kept.
use Rattle.std.proofs.lemmas.Result.{err_from_is_err_and}
use Rattle.fields.proofs.LeafLaws.{text_kept, text_refused}
use Rattle.fields.proofs.text_at.Goals as goal

pub returns-in_err-q : goal.returns-in_err-q
returns-in_err-q c = let p = err_from_is_err_and c.from_residual.result c.from_residual.ensures.1 in rw (p.1, p.2) (text_refused _ _ _ c.in_err-q.ensures)

pub returns : goal.returns
returns c = text_kept _ _ _ c.in_ok-q.ensures
