-- What is proved of every form: the theorems that a reader looks for, passed on from where they are proved.

-- every filled form is accepted, what is accepted is a filled form, and the same bytes say the same; a refusal's place lies in the file, the
-- bytes ahead of it begin a filled form where every field has a content, and no filled form begins with those through the field
pub use Rattle.form.proofs.ReaderLaws.{complete, sound, one_reading, place_inside, ahead, through}
-- where a form says the legal values of some rules, the reader accepts, reads and refuses by these rules
pub use Rattle.form.proofs.RulesLaws.{Says, accepted_legal, legal_accepted, only_one, ahead_legal, through_none, read_legal, legal_read}
-- forms one after another are read one after another, and a file is read from its first byte
pub use Rattle.form.proofs.PlaceLaws.{read_bind, run_read}
-- the same of forms end to end: accepted exactly where legal values are written out, in one way only, and refused at the right place
pub use Rattle.form.proofs.FilesLaws.{RefusedBehind, accepted_files, files_accepted, one_cut, refused_behind, ahead_files, through_files}
