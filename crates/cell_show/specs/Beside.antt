-- Two pages side by side in one: each stands within the quotes of an attribute
use Rattle.std.specs.Prelude.{◌==◌, ℕ, Option, List, [], ◌∷◌, ◌++◌, codes, flat_map, if◌then◌else◌}
use Rattle.std.specs.Io.KnownBytes.{Appends}

-- a byte within the quotes of an attribute: an ampersand and a quote are written by their names
abbrev pub escaped_byte : ℕ → List ℕ
escaped_byte b = if b == 38 then codes "&amp;" else if b == 34 then codes "&quot;" else b ∷ []

-- a text within the quotes of an attribute
abbrev pub escaped : List ℕ → List ℕ
escaped text = flat_map escaped_byte text

-- a byte of a name in the head of a page: of one of these, or of a sign that begins a tag, the name
abbrev pub name_byte : ℕ → List ℕ
name_byte b = if b == 60 then codes "&lt;" else escaped_byte b

-- a name in the head of a page
abbrev pub name_text : List ℕ → List ℕ
name_text name = flat_map name_byte name

-- two pages were written into one, each behind its name; its other parts are its head, what begins each page, its
-- middle and its end
pub record WritesBeside (old new : Option (List ℕ)) (first_name second_name first second : List ℕ) : Type 0 where
  pub head : List ℕ
  pub frame : List ℕ
  pub middle : List ℕ
  pub other : List ℕ
  pub end : List ℕ
  pub whole : Appends old new (head ++ (name_text first_name ++ (frame ++ (escaped first ++ (middle
      ++ (name_text second_name ++ (other ++ (escaped second ++ end))))))))
