-- The members of an object by key.
-- Assumes nothing.
use Rattle.std.specs.Prelude.{ℕ, suc, ◌+◌, Bool, cond, ◌&&◌, List, [], ◌∷◌, map, eqb, length, Option, Some, None}
use Rattle.ground.specs.Bytes.{byte_at, same}
use Rattle.view.specs.Values.{skip_of, starts_value}
use Rattle.view.specs.Ends.{end_of}
use Rattle.view.specs.Elements.{unroll}
use Rattle.view.specs.Strings.{string_at}
use Rattle.view.specs.declared.members.Member.{Member}
use Rattle.view.specs.declared.members.Members.{Members}
use Rattle.view.specs.declared.members.Titles.{Titles}

-- behind the key at k: white space and the colon; behind that: white space and the value
abbrev pub colon_of : List ℕ → ℕ → ℕ
colon_of t k = skip_of t (end_of t k)

unfoldable pub value_of : List ℕ → ℕ → ℕ
value_of t k = skip_of t (colon_of t k + 1)

-- a key, a colon, a value
unfoldable pub is_member : List ℕ → ℕ → Bool
is_member t k = eqb (byte_at t k) 34 && eqb (byte_at t (colon_of t k)) 58 && starts_value (byte_at t (value_of t k))

-- the key of the member that stands past the white space at p, if one does
unfoldable pub key_from : List ℕ → ℕ → Option ℕ
key_from t p = cond (is_member t (skip_of t p)) (Some (skip_of t p)) None

-- what is no object has no members
unfoldable pub first_key : List ℕ → ℕ → Option ℕ
first_key t p = cond (eqb (byte_at t p) 123) (key_from t (p + 1)) None

-- behind the value at v: white space, a comma, and the next key
unfoldable pub key_behind : List ℕ → ℕ → Option ℕ
key_behind t v = let e = skip_of t (end_of t v) in cond (eqb (byte_at t e) 44) (key_from t (e + 1)) None

abbrev pub key_after : List ℕ → ℕ → Option ℕ
key_after t k = key_behind t (value_of t k)

-- the keys from a place on; there are no more than the text has bytes (`keys_next`)
unfoldable pub keys_at : List ℕ → Option ℕ → List ℕ
keys_at t s = unroll (key_after t) (suc (length t)) s

-- a member, by the places of its key and of its value
abbrev pub entry : ℕ → ℕ → Option Member
entry k v = Some (record { key = k; value = v })

abbrev pub member_of : List ℕ → ℕ → Member
member_of t k = record { key = k; value = value_of t k }

-- the members of the object at p
unfoldable pub members_at : List ℕ → ℕ → List Member
members_at t p = map (member_of t) (keys_at t (first_key t p))

-- the value of the last of the members whose key is w, or s
unfoldable pub last_under : List ℕ → List ℕ → Option ℕ → List Member → Option ℕ
last_under t w s [] = s
last_under t w s (m ∷ ms) = last_under t w (cond (same (string_at t m.key) w) (Some m.value) s) ms

-- the value under the key w in the object at p: the last counts
unfoldable pub member : List ℕ → ℕ → List ℕ → Option ℕ
member t p w = last_under t w None (members_at t p)

-- ---- the keys that a declaration looks at

abbrev pub type_key : List ℕ
type_key = 116 ∷ 121 ∷ 112 ∷ 101 ∷ []

abbrev pub name_key : List ℕ
name_key = 110 ∷ 97 ∷ 109 ∷ 101 ∷ []

abbrev pub namespace_key : List ℕ
namespace_key = 110 ∷ 97 ∷ 109 ∷ 101 ∷ 115 ∷ 112 ∷ 97 ∷ 99 ∷ 101 ∷ []

abbrev pub aliases_key : List ℕ
aliases_key = 97 ∷ 108 ∷ 105 ∷ 97 ∷ 115 ∷ 101 ∷ 115 ∷ []

abbrev pub fields_key : List ℕ
fields_key = 102 ∷ 105 ∷ 101 ∷ 108 ∷ 100 ∷ 115 ∷ []

abbrev pub symbols_key : List ℕ
symbols_key = 115 ∷ 121 ∷ 109 ∷ 98 ∷ 111 ∷ 108 ∷ 115 ∷ []

abbrev pub default_key : List ℕ
default_key = 100 ∷ 101 ∷ 102 ∷ 97 ∷ 117 ∷ 108 ∷ 116 ∷ []

abbrev pub size_key : List ℕ
size_key = 115 ∷ 105 ∷ 122 ∷ 101 ∷ []

abbrev pub items_key : List ℕ
items_key = 105 ∷ 116 ∷ 101 ∷ 109 ∷ 115 ∷ []

abbrev pub values_key : List ℕ
values_key = 118 ∷ 97 ∷ 108 ∷ 117 ∷ 101 ∷ 115 ∷ []

abbrev pub logical_type_key : List ℕ
logical_type_key = 108 ∷ 111 ∷ 103 ∷ 105 ∷ 99 ∷ 97 ∷ 108 ∷ 84 ∷ 121 ∷ 112 ∷ 101 ∷ []

abbrev pub precision_key : List ℕ
precision_key = 112 ∷ 114 ∷ 101 ∷ 99 ∷ 105 ∷ 115 ∷ 105 ∷ 111 ∷ 110 ∷ []

abbrev pub scale_key : List ℕ
scale_key = 115 ∷ 99 ∷ 97 ∷ 108 ∷ 101 ∷ []

unfoldable pub keys : List (List ℕ)
keys =
    type_key ∷ name_key ∷ namespace_key ∷ aliases_key ∷ fields_key ∷ symbols_key ∷ default_key ∷ size_key ∷ items_key ∷ values_key
    ∷ logical_type_key ∷ precision_key ∷ scale_key ∷ []

-- the value under each of them in the object at p
unfoldable pub members_of : List ℕ → ℕ → Members
members_of t p = record {
  typed = member t p type_key;
  name = member t p name_key;
  namespace = member t p namespace_key;
  aliases = member t p aliases_key;
  fields = member t p fields_key;
  symbols = member t p symbols_key;
  default = member t p default_key;
  size = member t p size_key;
  items = member t p items_key;
  values = member t p values_key;
  logical_type = member t p logical_type_key;
  precision = member t p precision_key;
  scale = member t p scale_key;
}

unfoldable pub titles_of : List ℕ → ℕ → Titles
titles_of t p = record { name = member t p name_key; aliases = member t p aliases_key }

-- ---- what the code holds on the way

-- the number of a key: its place in a list, or the list's length
unfoldable pub index_of : List ℕ → List (List ℕ) → ℕ
index_of s [] = 0
index_of s (w ∷ ws) = let more = suc (index_of s ws) in cond (same s w) 0 more

abbrev pub key_number : List ℕ → ℕ
key_number s = index_of s keys

-- the same number for a key that names an object, and that of all other keys for every other
unfoldable pub title_number : List ℕ → ℕ
title_number s = cond (same s name_key) 1 (cond (same s aliases_key) 3 13)

-- the member, if there is one, whose key stands at a place, if it stands at one
abbrev pub entry_of : List ℕ → Option ℕ → Option Member
entry_of t (Some k) = Some (member_of t k)
entry_of t None = None
