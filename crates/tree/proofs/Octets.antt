-- All strings of a tree are UTF-8. Assumes nothing.
use mathlib.Core.List.{List}
use Prim.Native.Nat.{ℕ, zero, suc, ◌+◌}
use lib.ListN.{length}
use Rattle.grammar.specs.Grammar.{◌·◌, join, this, that, absent, present, Many, none, more, value_separator, member, object, array, value}
use Rattle.tree.specs.Tree.{Members, values_in, further_values, members_in, further_members, member_of, array_of, object_of, tree_of, word_of, number_of, text_of, InUtf8, AllUtf8, MembersUtf8}
use Rattle.tree.proofs.Utf8.{string_utf8}

module _ (n : ℕ) (inside : (s : List ℕ) (p : ℕ) (d : value n s) → InUtf8 (tree_of n s p d)) where
  further_utf8 : {s : List ℕ} (p : ℕ) (ds : Many (value_separator · value n) s) → AllUtf8 (further_values (tree_of n) p ds)
  unfolding further_values InUtf8
  further_utf8 p none = tt
  further_utf8 p (more {s = s} (join {s = c} {t = t} x d) ds) = (inside t (p + length c) d, further_utf8 (p + length s) ds)

  array_utf8 : {s : List ℕ} (p : ℕ) (d : array (value n) s) → InUtf8 (array_of (tree_of n) p d)
  unfolding array_of values_in InUtf8
  array_utf8 p (join (join w b) (join absent (join w' b'))) = tt
  array_utf8 p (join {s = f} (join w b) (join (present (join {s = s} d ds)) (join w' b'))) = (inside s (p + length f) d, further_utf8 (p + length f + length s) ds)

  member_utf8 : {s : List ℕ} (p : ℕ) (m : member (value n) s) (ms : Members) → MembersUtf8 ms → MembersUtf8 (member_of (tree_of n) p m ms)
  unfolding member_of text_of InUtf8
  member_utf8 p (join {s = k} key (join {s = c} {t = t} x d)) ms r = (string_utf8 key, inside t (p + length k + length c) d, r)

  further_members_utf8 : {s : List ℕ} (p : ℕ) (ms : Many (value_separator · member (value n)) s) → MembersUtf8 (further_members (tree_of n) p ms)
  unfolding further_members InUtf8
  further_members_utf8 p none = tt
  further_members_utf8 p (more {s = s} (join {s = c} x m) ms) = member_utf8 (p + length c) m _ (further_members_utf8 (p + length s) ms)

  object_utf8 : {s : List ℕ} (p : ℕ) (d : object (value n) s) → InUtf8 (object_of (tree_of n) p d)
  unfolding object_of members_in InUtf8
  object_utf8 p (join (join w b) (join absent (join w' b'))) = tt
  object_utf8 p (join {s = f} (join w b) (join (present (join {s = s} m ms)) (join w' b'))) = member_utf8 (p + length f) m _ (further_members_utf8 (p + length f + length s) ms)

pub value_utf8 : (n : ℕ) (s : List ℕ) (p : ℕ) (d : value n s) → InUtf8 (tree_of n s p d)
unfolding value tree_of word_of number_of text_of InUtf8
value_utf8 zero s p (this d) = tt
value_utf8 zero s p (that (this d)) = tt
value_utf8 zero s p (that (that (this d))) = tt
value_utf8 zero s p (that (that (that (this d)))) = tt
value_utf8 zero s p (that (that (that (that d)))) = string_utf8 d
value_utf8 (suc n) s p (this d) = tt
value_utf8 (suc n) s p (that (this d)) = tt
value_utf8 (suc n) s p (that (that (this d))) = tt
value_utf8 (suc n) s p (that (that (that (this d)))) = object_utf8 n (value_utf8 n) p d
value_utf8 (suc n) s p (that (that (that (that (this d))))) = array_utf8 n (value_utf8 n) p d
value_utf8 (suc n) s p (that (that (that (that (that (this d)))))) = tt
value_utf8 (suc n) s p (that (that (that (that (that (that d)))))) = string_utf8 d
