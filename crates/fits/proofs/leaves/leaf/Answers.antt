-- `fits::leaves::leaf` meets its contract: an arm for each kind.
-- Assumes nothing.
use mathlib.Core.Path.{refl, ap, ◌∙◌}
use mathlib.Core.Logic.{inl, inr}
use Rattle.fits.proofs.FitLaws.{plain_kind, no_values, sized}
use Rattle.fits.specs.Fits.{kind_fits}
use Rattle.fits.specs.Steps.{is_nested}
use Rattle.fits.proofs.leaves.leaf.Goals as goal

pub returns-in-Null : goal.returns-in-Null
unfolding kind_fits
returns-in-Null c = λ go h. plain_kind _ _ _ _ _ c.requires.2 c.kind_at.ensures c.in-Null.is go c.is_null.ensures

pub returns-in-Boolean : goal.returns-in-Boolean
unfolding kind_fits
returns-in-Boolean c = λ go h. plain_kind _ _ _ _ _ c.requires.2 c.kind_at.ensures c.in-Boolean.is go c.is_boolean.ensures

pub returns-in-Int : goal.returns-in-Int
unfolding kind_fits
returns-in-Int c = λ go h. plain_kind _ _ _ _ _ c.requires.2 c.kind_at.ensures c.in-Int.is go c.is_whole.ensures

pub returns-in-Long : goal.returns-in-Long
unfolding kind_fits
returns-in-Long c = λ go h. plain_kind _ _ _ _ _ c.requires.2 c.kind_at.ensures c.in-Long.is go c.is_whole-in-Long.ensures

pub returns-in-Bytes : goal.returns-in-Bytes
unfolding kind_fits
returns-in-Bytes c = λ go h. plain_kind _ _ _ _ _ c.requires.2 c.kind_at.ensures c.in-Bytes.is go c.is_bytes.ensures

pub returns-in-String : goal.returns-in-String
unfolding kind_fits
returns-in-String c = λ go h. plain_kind _ _ _ _ _ c.requires.2 c.kind_at.ensures c.in-String.is go c.is_string.ensures

pub returns-in-Fixed : goal.returns-in-Fixed
unfolding kind_fits
returns-in-Fixed c = λ go h. plain_kind _ _ _ _ _ c.requires.2 c.kind_at.ensures c.in-Fixed.is go (sized _ _ c.size_at.ensures c.is_fixed.ensures)

pub returns-in-Enum : goal.returns-in-Enum
unfolding kind_fits
returns-in-Enum c = λ go h. plain_kind _ _ _ _ _ c.requires.2 c.kind_at.ensures c.in-Enum.is go c.is_of_enum.ensures

pub returns-in-Float : goal.returns-in-Float
unfolding kind_fits
returns-in-Float c = λ go h.
    elim c.in-Float.is [
      | inl f ↦ plain_kind _ _ _ _ _ c.requires.2 c.kind_at.ensures f go c.is_number.ensures
      | inr f ↦ plain_kind _ _ _ _ _ c.requires.2 c.kind_at.ensures f go c.is_number.ensures
    ]

pub returns-in_default : goal.returns-in_default
returns-in_default c = λ go h. plain_kind _ _ _ _ _ c.requires.2 c.kind_at.ensures refl go (no_values _ go _ _ _ c.kind_at.result (ap is_nested c.kind_at.ensures ∙ h) c.in_default.not-Null c.in_default.not-Boolean c.in_default.not-Int c.in_default.not-Long c.in_default.not-Float c.in_default.not-Double c.in_default.not-Bytes c.in_default.not-String c.in_default.not-Enum c.in_default.not-Fixed)
