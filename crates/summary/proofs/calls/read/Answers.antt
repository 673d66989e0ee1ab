-- `summary::calls::read` meets its contract: what comes of the walk.
-- Assumes nothing.
use Rattle.std.proofs.Common.{ℕ, ◌∙◌, arith, rules}
use lib.ListN.{length-replicate}
use Rattle.walk.proofs.Laws.{exit, gave_went, gave_stopped}
use Rattle.summary.proofs.FormedLaws.{formed_long, formed_few, formed_rows, place_few, place_start}
use Rattle.summary.proofs.CopyLaws.{copied}
use Rattle.summary.proofs.ReadLaws.{datum_is, mapped_ok, mapped_err, read_stopped, read_left, read_full, read_room, read_given}
use Rattle.summary.proofs.calls.read.Goals as goal

pub declarations-requires : goal.declarations-requires
declarations-requires c = formed_long _ c.requires.0

pub rows_before-rows-requires : goal.rows_before-rows-requires
rows_before-rows-requires c = (formed_long _ c.requires.0, formed_few _ c.requires.0 _ c.declarations.ensures)

pub rows_before-start-requires : goal.rows_before-start-requires
rows_before-start-requires c = (formed_long _ c.requires.0, place_few _ c.requires.0 _ c.declarations.ensures _ c.rows_before-rows.ensures _ c.requires.1)

pub walk-requires : goal.walk-requires
walk-requires c = (formed_long _ c.requires.0, formed_rows _ c.requires.0 _ c.declarations.ensures _ c.rows_before-rows.ensures, place_start _ c.requires.0 _ c.declarations.ensures _ c.rows_before-rows.ensures _ c.requires.1 _ c.rows_before-start.ensures, c.requires.2, length-replicate {A = ℕ} 4097 0)

pub returns-in_err-to : goal.returns-in_err-to
returns-in_err-to c =
    let e = mapped_err c.args.place _ c.in_err-to.ensures.cases (λ f p. search rules) in
    read_stopped _ _ _ _ _ _ (datum_is _ c.requires.0 _ c.declarations.ensures _ c.rows_before-rows.ensures _ c.requires.1 _ c.rows_before-start.ensures _ _) (gave_stopped e.1 c.walk.ensures) e.2 (exit c.from_residual.ensures.1)

pub returns-then-to-bytes : goal.returns-then-to-bytes
returns-then-to-bytes c = read_left _ _ _ _ _ _ (datum_is _ c.requires.0 _ c.declarations.ensures _ c.rows_before-rows.ensures _ c.requires.1 _ c.rows_before-start.ensures _ _) (gave_went (mapped_ok _ c.in_ok-to.ensures.cases) c.walk.ensures) c.if-to-bytes.true c.refusal.ensures

pub overflow_add-n : goal.overflow_add-n
overflow_add-n c = let g = (gave_went (mapped_ok _ c.in_ok-to.ensures.cases) c.walk.ensures) in omega (arith, g.few)

pub returns-then-list-n : goal.returns-then-list-n
returns-then-list-n c = read_full _ _ _ _ _ _ (datum_is _ c.requires.0 _ c.declarations.ensures _ c.rows_before-rows.ensures _ c.requires.1 _ c.rows_before-start.ensures _ _) (gave_went (mapped_ok _ c.in_ok-to.ensures.cases) c.walk.ensures) (omega (arith, c.if-to-bytes.false)) (omega (arith, c.if-list-n.true)) c.refusal-then-list-n.ensures

pub bounds-offsets-given : goal.bounds-offsets-given
bounds-offsets-given c = let g = (gave_went (mapped_ok _ c.in_ok-to.ensures.cases) c.walk.ensures) in omega (arith, g.few)

pub returns : goal.returns
returns c =
    let g = (gave_went (mapped_ok _ c.in_ok-to.ensures.cases) c.walk.ensures) in
    let l = c.walk.auto.list ∙ length-replicate {A = ℕ} 4097 0 in
    read_given _ _ _ _ _ _ (datum_is _ c.requires.0 _ c.declarations.ensures _ c.rows_before-rows.ensures _ c.requires.1 _ c.rows_before-start.ensures _ _) g (omega (arith, c.if-to-bytes.false)) (omega (arith, c.if-list-n.false)) l (copied _ _ _ (omega (arith, c.if-list-n.false)) (read_room g l) c.copy_from_slice.ensures.after)
