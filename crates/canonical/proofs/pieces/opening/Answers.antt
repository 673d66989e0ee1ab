-- `canonical::pieces::opening` meets its contract: each arm writes its kind's text.
-- Assumes nothing.
use Rattle.canonical.specs.Pieces.{opening}
use Rattle.canonical.proofs.PieceLaws.{opening_told, opening_quoted, opening_none, opening_word}
use Rattle.canonical.proofs.WriteLaws.{wrote_none, wrote_eq}
use Rattle.canonical.proofs.pieces.opening.Goals as goal

pub returns-in-Reference : goal.returns-in-Reference
returns-in-Reference c = wrote_eq (opening_quoted _ _ _ c.in-Reference.in-Reference-own.keys1) c.quoted.ensures

pub returns-in-Array : goal.returns-in-Array
unfolding opening
returns-in-Array c = wrote_eq (opening_told _ _ _ _ c.in-Array.is) c.put.ensures

pub returns-in-Map : goal.returns-in-Map
unfolding opening
returns-in-Map c = wrote_eq (opening_told _ _ _ _ c.in-Map.is) c.put-in-Map.ensures

pub returns-in-Union : goal.returns-in-Union
unfolding opening
returns-in-Union c = wrote_eq (opening_told _ _ _ _ c.in-Union.is) c.put-in-Union.ensures

pub returns-in-Record : goal.returns-in-Record
unfolding opening
returns-in-Record c = wrote_eq (opening_told _ _ _ _ c.in-Record.is) c.named.ensures

pub returns-in-Enum : goal.returns-in-Enum
unfolding opening
returns-in-Enum c = wrote_eq (opening_told _ _ _ _ c.in-Enum.is) c.named-in-Enum.ensures

pub returns-in-Fixed : goal.returns-in-Fixed
unfolding opening
returns-in-Fixed c = wrote_eq (opening_told _ _ _ _ c.in-Fixed.is) c.fixed.ensures

pub returns-in-Field : goal.returns-in-Field
unfolding opening
returns-in-Field c = wrote_eq (opening_told _ _ _ _ c.in-Field.is) c.named-in-Field.ensures

pub returns-in-Alias : goal.returns-in-Alias
returns-in-Alias c = wrote_eq (opening_none _ _ _ c.in-Alias.in-Alias-own.keys9) (wrote_none _ _)

pub returns-in_default : goal.returns-in_default
returns-in_default c = wrote_eq (opening_word _ _ _ c.in_default.in_default-own.keys10) c.word.ensures
