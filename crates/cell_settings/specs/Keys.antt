-- Which keys settings have, and the first that is unknown
use Rattle.std.specs.Prelude.{◌||◌, Bool, ℕ, is_some, List, ◌∷◌, ◌++◌, Option, Some, None, if◌then◌else◌, codes}
use Rattle.std.specs.Str.{bytes_eq}
use Rattle.cell_types.specs.Texts.{axis_named}
use Rattle.toml.specs.Data.{Data, Members, no_members, member, as_table}

-- a path and one key more: a dot (46) between them
abbrev pub dotted : List ℕ → List ℕ → List ℕ
dotted path key = path ++ 46 ∷ key

-- the keys of an axis's table
abbrev pub is_limit_key : List ℕ → Bool
is_limit_key key = bytes_eq key (codes "leave") || bytes_eq key (codes "limit")

-- the keys of the table `watch`: the words of the axes
abbrev pub is_axis_key : List ℕ → Bool
is_axis_key key = is_some (axis_named key)

-- the keys at the top, beside `watch`
abbrev pub is_number_key : List ℕ → Bool
is_number_key key = bytes_eq key (codes "plates") || bytes_eq key (codes "journal_limit")
    || bytes_eq key (codes "turns")

-- the first of two, if there is one
abbrev pub first_of : Option (List ℕ) → Option (List ℕ) → Option (List ℕ)
first_of None y = y
first_of (Some x) y = Some x

-- the first unknown key of an axis's table
abbrev pub stray_limit : List ℕ → Members → Option (List ℕ)
stray_limit path no_members = None
stray_limit path (member key d rest) = if is_limit_key key then stray_limit path rest else Some (dotted path key)

-- the first unknown key below a key that has to be a table, or that key where it isn't one
abbrev pub stray_under : List ℕ → Option Members → (Members → Option (List ℕ)) → Option (List ℕ)
stray_under path None f = Some path
stray_under path (Some ms) f = f ms

abbrev pub watched : List ℕ → List ℕ
watched axis = dotted (codes "watch") axis

-- the first unknown key at a key of the table `watch`
abbrev pub stray_at : List ℕ → Data → Option (List ℕ)
stray_at key d = if is_axis_key key then stray_under (watched key) (as_table d) (stray_limit (watched key)) else Some
    (watched key)

-- the first unknown key of the table `watch`
abbrev pub stray_axis : Members → Option (List ℕ)
stray_axis no_members = None
stray_axis (member key d rest) = first_of (stray_at key d) (stray_axis rest)

-- the first unknown key at a key at the top
abbrev pub stray_top : List ℕ → Data → Option (List ℕ)
stray_top key d =
    if bytes_eq key (codes "watch") then stray_under (codes "watch") (as_table d) stray_axis
    else if is_number_key key then None
    else Some key

-- the first unknown key of settings: toml has the keys of a table in the order of their bytes
abbrev pub stray : Members → Option (List ℕ)
stray no_members = None
stray (member key d rest) = first_of (stray_top key d) (stray rest)
