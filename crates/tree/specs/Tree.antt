-- What a JSON text says: a tree of values, each with the place where it stands, read off the text's derivation by the grammar, rule by rule.
-- Assumes nothing: these are definitions.
use Rattle.std.specs.Prelude.{ℕ, zero, suc, ◌+◌, ◌-◌, ◌*◌, cond, List, [], ◌∷◌, ltb, length, Option, Some, None}
use Rattle.grammar.specs.Grammar.{Rule, ◌·◌, join, this, that, Optional, absent, present, Many, none, more, value_separator, number, string, member, object, array, value, JSON_text}
use Rattle.tree.specs.Characters.{string_of, UTF8_octets}

-- a value: the place of its first byte, the place behind its last, and what it says. A word or a number says its bytes, and a number that is a size its size;
-- a string says the bytes of its characters, an array its values in order, an object its members in order, each a key and a value
mutual
  pub data Tree : Type 0 where
    a_word : ℕ → ℕ → List ℕ → Tree
    a_number : ℕ → ℕ → List ℕ → Option ℕ → Tree
    a_text : ℕ → ℕ → List ℕ → Tree
    an_array : ℕ → ℕ → Trees → Tree
    an_object : ℕ → ℕ → Members → Tree

  pub data Trees : Type 0 where
    no_tree : Trees
    tree : Tree → Trees → Trees

  pub data Members : Type 0 where
    no_member : Members
    under : Tree → Tree → Members → Members

-- ---- words, numbers (section 6) and strings (section 7), whose bytes s stand at p
unfoldable pub word_of : (s : List ℕ) → ℕ → Tree
word_of s p = a_word p (p + length s) s

unfoldable pub text_of : (s : List ℕ) → ℕ → string s → Tree
text_of s p d = a_text p (p + length s) (string_of d)

-- the number that digits write, behind v
unfoldable pub decimal : ℕ → List ℕ → ℕ
decimal v [] = v
decimal v (b ∷ bs) = decimal (v * 10 + (b - 0x30)) bs

-- a size: digits alone, and what they write is below 2^64
unfoldable pub size_in : {s : List ℕ} → number s → Option ℕ
size_in (join (present minus) d) = None
size_in (join absent (join int (join (present frac) d))) = None
size_in (join absent (join int (join absent (present exp)))) = None
size_in (join absent (join {s = s} int (join absent absent))) = cond (ltb (decimal 0 s) 0x10000000000000000) (Some (decimal 0 s)) None

unfoldable pub number_of : (s : List ℕ) → ℕ → number s → Tree
number_of s p d = a_number p (p + length s) s (size_in d)

-- ---- arrays and objects (sections 4 and 5), of values that are read by f at the place where the rule's bytes begin
module _ {v : Rule} (f : (s : List ℕ) → ℕ → v s → Tree) where
  -- the values behind a comma, each behind its own
  unfoldable pub further_values : {s : List ℕ} → ℕ → Many (value_separator · v) s → Trees
  further_values p none = no_tree
  further_values p (more {s = s} (join {s = comma} {t = t} c d) ds) = tree (f t (p + length comma) d) (further_values (p + length s) ds)

  unfoldable pub values_in : {s : List ℕ} → ℕ → Optional (v · Many (value_separator · v)) s → Trees
  values_in p absent = no_tree
  values_in p (present (join {s = s} d ds)) = tree (f s p d) (further_values (p + length s) ds)

  -- the array stands from its opening bracket on, behind white space, to its closing one, before white space
  unfoldable pub array_of : {s : List ℕ} → ℕ → array v s → Tree
  array_of p (join {s = front} (join {s = space} w b) (join {s = values} ds (join {s = space'} w' b'))) =
      an_array (p + length space) (p + length front + length values + length space' + 1) (values_in (p + length front) ds)

  unfoldable pub member_of : {s : List ℕ} → ℕ → member v s → Members → Members
  member_of p (join {s = key} k (join {s = colon} {t = t} c d)) ms = under (text_of key p k) (f t (p + length key + length colon) d) ms

  unfoldable pub further_members : {s : List ℕ} → ℕ → Many (value_separator · member v) s → Members
  further_members p none = no_member
  further_members p (more {s = s} (join {s = comma} c m) ms) = member_of (p + length comma) m (further_members (p + length s) ms)

  unfoldable pub members_in : {s : List ℕ} → ℕ → Optional (member v · Many (value_separator · member v)) s → Members
  members_in p absent = no_member
  members_in p (present (join {s = s} m ms)) = member_of p m (further_members (p + length s) ms)

  unfoldable pub object_of : {s : List ℕ} → ℕ → object v s → Tree
  object_of p (join {s = front} (join {s = space} w b) (join {s = members} ms (join {s = space'} w' b'))) =
      an_object (p + length space) (p + length front + length members + length space' + 1) (members_in (p + length front) ms)

-- ---- values (section 3), and texts (section 2)
unfoldable pub tree_of : (n : ℕ) (s : List ℕ) → ℕ → value n s → Tree
unfolding value
tree_of zero s p (this d) = word_of s p
tree_of zero s p (that (this d)) = word_of s p
tree_of zero s p (that (that (this d))) = word_of s p
tree_of zero s p (that (that (that (this d)))) = number_of s p d
tree_of zero s p (that (that (that (that d)))) = text_of s p d
tree_of (suc n) s p (this d) = word_of s p
tree_of (suc n) s p (that (this d)) = word_of s p
tree_of (suc n) s p (that (that (this d))) = word_of s p
tree_of (suc n) s p (that (that (that (this d)))) = object_of (tree_of n) p d
tree_of (suc n) s p (that (that (that (that (this d))))) = array_of (tree_of n) p d
tree_of (suc n) s p (that (that (that (that (that (this d)))))) = number_of s p d
tree_of (suc n) s p (that (that (that (that (that (that d)))))) = text_of s p d

unfoldable pub text_tree : (n : ℕ) (s : List ℕ) → JSON_text n s → Tree
text_tree n s (join {s = space} w (join {s = v} d w')) = tree_of n v (length space) d

-- every string of a tree, and every key, is text in UTF-8
unfoldable mutual
  pub InUtf8 : Tree → Type 0
  InUtf8 (a_word p q s) = Unit {0}
  InUtf8 (a_number p q s z) = Unit {0}
  InUtf8 (a_text p q s) = UTF8_octets s
  InUtf8 (an_array p q xs) = AllUtf8 xs
  InUtf8 (an_object p q ms) = MembersUtf8 ms

  pub AllUtf8 : Trees → Type 0
  AllUtf8 no_tree = Unit {0}
  AllUtf8 (tree x xs) = InUtf8 x × AllUtf8 xs

  pub MembersUtf8 : Members → Type 0
  MembersUtf8 no_member = Unit {0}
  MembersUtf8 (under k x ms) = InUtf8 k × InUtf8 x × MembersUtf8 ms
