-- A call of the program, as its contract sees it: what was asked for, and what the outside told before it and tells after it.
use Rattle.std.specs.Prelude.{ℕ, List, Option, map, String, string_bytes}
use Rattle.std.specs.declared.alloc.Global.{Global}
use Rattle.bridge_base.specs.Outside.{Files}
use Rattle.bridge_spec.specs.Forms.{Form, form_of}

-- what a shelf told before a call and tells after it, with its count of faults
pub record Shelved : Type 0 where
  pub told_before : Option Files
  pub told : Option Files
  pub faults_before : ℕ
  pub faults : ℕ
  pub begun_before : Option (List (List ℕ))
  pub begun : Option (List (List ℕ))

-- what a sink told before a call and tells after it, with its count of faults
pub record Sunk : Type 0 where
  pub got_before : Option (List ℕ)
  pub got : Option (List ℕ)
  pub faults_before : ℕ
  pub faults : ℕ

-- the form of the words, if they have one, the shelf, standard output and standard error
pub record Call : Type 0 where
  pub form : Option Form
  pub shelf : Shelved
  pub out : Sunk
  pub note : Sunk

-- a shelf before a call and after it, by its meanings: its files, its count of faults, the names begun
abbrev pub shelved : {H : Type 0} → (H → Option Files) → (H → ℕ) → (H → Option (List (List ℕ))) → H → H → Shelved
shelved told faults begun old new = record
    { told_before = told old; told = told new; faults_before = faults old; faults = faults new; begun_before = begun old; begun = begun new }

-- a shelf that a call leaves alone: it tells the same, counts the same and began nothing
abbrev pub untouched : Option Files → ℕ → Option (List (List ℕ)) → Shelved
untouched told faults begun = record { told_before = told; told = told; faults_before = faults; faults = faults; begun_before = begun; begun = begun }

-- a sink before a call and after it, by its meanings
abbrev pub sunk : {S : Type 0} → (S → Option (List ℕ)) → (S → ℕ) → S → S → Sunk
sunk got faults old new = record { got_before = got old; got = got new; faults_before = faults old; faults = faults new }

abbrev pub call : Option Form → Shelved → Sunk → Sunk → Call
call form shelf out note = record { form = form; shelf = shelf; out = out; note = note }

-- the form of the words of a command line
abbrev pub form_in : List (String Global) → Option Form
form_in words = form_of (map string_bytes words)

-- the names of the files that words give
abbrev pub names_in : List (String Global) → List (List ℕ)
names_in words = map string_bytes words
