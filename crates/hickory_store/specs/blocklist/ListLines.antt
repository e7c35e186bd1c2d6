-- What the text of a list says: a name on a line, or the address 0.0.0.0, one blank and a name, as in a hosts file;
-- other white space than blanks does not matter around the address. A `#` begins a comment.
use Rattle.std.specs.Prelude.{◌≡◌, ◌==◌, ℕ, Bool, true, if◌then◌else◌, List, Option, Some, None}
use Rattle.std.specs.List.{list_any, before_first, after_first}
use Rattle.std.specs.Str.{trim, bytes_eq}
use Rattle.std.specs.Prelude.{codes}
use Rattle.wire_names.specs.rr.domain.DomainName.{DomainName}
use Rattle.wire_names.specs.rr.domain.NameOrder.{SameName}
use Rattle.wire_names.specs.rr.domain.NameText.{IsNameText}

-- the byte is `#`, which begins a comment
abbrev pub is_comment : ℕ → Bool
is_comment b = b == 35

-- the byte is a blank; no other white space parts an address from a name
abbrev pub is_blank : ℕ → Bool
is_blank b = b == 32

-- the entry of a line: all of it, or what stands before a comment, without white space around it
abbrev pub entry_of : List ℕ → List ℕ
entry_of line = if list_any is_comment line then trim (before_first is_comment line) else line

-- What stands where an entry has its name: behind the first blank, where 0.0.0.0 stands before it, other white space
-- aside, or all of an entry without a blank.
abbrev pub name_of : List ℕ → Option (List ℕ)
name_of entry =
    if list_any is_blank entry
    then (if bytes_eq (trim (before_first is_blank entry)) (codes "0.0.0.0") then Some (after_first is_blank entry) else None)
    else Some entry

abbrev pub name_part : List ℕ → Option (List ℕ)
name_part line = name_of (entry_of line)

-- The line lists the name, letter case aside. It is fully qualified, with a final dot in the text or without one.
pub record Lists (line : List ℕ) (name : DomainName) : Type 0 where
  pub text : List ℕ
  pub written : DomainName
  pub part : name_part line ≡ Some text
  pub spelled : IsNameText text written
  pub same : SameName (record { labels = written.labels; is_fqdn = true }) name
