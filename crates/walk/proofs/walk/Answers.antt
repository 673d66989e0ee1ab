-- `walk::walk` meets its contract: what comes of it all is kept from turn to turn.
-- Assumes nothing.
use Rattle.std.proofs.Common.{refl, Option, None, ℕ, ◌∙◌, arith, rules}
use lib.ListN.{length-replicate}
use Rattle.walk.proofs.TableLaws.{found_nothings, follows_nothings}
use Rattle.walk.proofs.DatumLaws.{starts, stop_turn, gave_stop, gave_end}
use Rattle.walk.proofs.walk.Goals as goal

pub loop-here-init : goal.loop-here-init
loop-here-init c = record { bounded = record { at_bound = c.requires.3; frames_size = length-replicate {A = ℕ} 12288 0; frames_room = omega arith }; listed = record { list_size = c.requires.4; list_room = omega arith }; whole = starts _ _ _ _ _ _ _; defined = found_nothings _ _ 1024; follows = follows_nothings _ _ 1024; found_size = length-replicate {A = Option ℕ} 1024 None; next_size = length-replicate {A = Option ℕ} 1024 None }

pub visit-requires : goal.visit-requires
visit-requires c = (c.requires.0, c.requires.1, c.loop-here.invariant.defined, c.loop-here.invariant.follows, c.in-Some.is, c.loop-here.invariant.bounded, c.loop-here.invariant.listed)

pub returns-in-Err : goal.returns-in-Err
returns-in-Err c = gave_stop _ (stop_turn c.in-Err.is c.visit.ensures.0 ∙ c.loop-here.invariant.whole) refl

pub returns-in-None : goal.returns-in-None
returns-in-None c = gave_end _ _ _ _ _ _ c.loop-here.invariant.listed c.in-None.is c.if-here-eq0.true c.loop-here.invariant.whole

pub resume-requires : goal.resume-requires
resume-requires c = (c.requires.0, c.requires.1, c.loop-here.invariant.follows, search rules, c.in-None.is, c.loop-here.invariant.bounded)

pub returns-in-Err-resume : goal.returns-in-Err-resume
returns-in-Err-resume c = gave_stop _ (stop_turn c.in-Err-resume.is (c.resume.ensures.0 _ c.loop-here.invariant.listed) ∙ c.loop-here.invariant.whole) refl
