-- The tree that the views of a text show: the kinds of values, their ends, sizes, strings, elements and members (crate `view`).
-- Assumes nothing: these are definitions.
use Rattle.std.specs.Prelude.{ℕ, zero, suc, ◌-◌, List, [], ◌∷◌}
use Rattle.ground.specs.Bytes.{part}
use Rattle.view.specs.Values.{shape_at}
use Rattle.view.specs.Ends.{end_of}
use Rattle.view.specs.Elements.{elements}
use Rattle.view.specs.Strings.{string_at}
use Rattle.view.specs.Members.{members_at}
use Rattle.view.specs.declared.members.Member.{Member}
use Rattle.view.specs.Size.{size_of}
use Rattle.view.specs.declared.shape.Shape.{Shape}
use Rattle.view.specs.declared.shape.Shape.TheVariants.{Text, Number, Object, Array, Word, Nothing}
use Rattle.tree.specs.Tree.{Tree, Trees, Members, a_word, a_number, a_text, an_array, an_object, no_tree, tree, no_member, under}

module _ (t : List ℕ) where
  -- the bytes from p up to the end of the value there
  abbrev pub bytes_at : ℕ → List ℕ
  bytes_at p = part t p (end_of t p - p)

  -- the string at p
  unfoldable pub text_at : ℕ → Tree
  text_at p = a_text p (end_of t p) (string_at t p)

  -- of values that f shows
  unfoldable pub shown_all : (ℕ → Tree) → List ℕ → Trees
  shown_all f [] = no_tree
  shown_all f (p ∷ ps) = tree (f p) (shown_all f ps)

  unfoldable pub shown_members : (ℕ → Tree) → List Member → Members
  shown_members f [] = no_member
  shown_members f (m ∷ ms) = under (text_at m.key) (f m.value) (shown_members f ms)

  -- by its first byte; where no value stands a word of no bytes
  unfoldable pub shown_as : (ℕ → Tree) → Shape → ℕ → Tree
  shown_as f Text p = text_at p
  shown_as f Number p = a_number p (end_of t p) (bytes_at p) (size_of t p)
  shown_as f Object p = an_object p (end_of t p) (shown_members f (members_at t p))
  shown_as f Array p = an_array p (end_of t p) (shown_all f (elements t p))
  shown_as f Word p = a_word p (end_of t p) (bytes_at p)
  shown_as f Nothing p = a_word p p []

  -- the value at p, down to n values deep
  unfoldable pub shown : ℕ → ℕ → Tree
  shown zero p = a_word p p []
  shown (suc n) p = shown_as (shown n) (shape_at t p) p
