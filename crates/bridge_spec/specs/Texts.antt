-- What the program writes for an answer.
use Rattle.std.specs.Prelude.{ℕ, suc, Bool, true, false, ◌++◌, List, [], ◌∷◌, map, length, min, sum_by, count_by, is_none, codes, decimal}
use Rattle.common.specs.declared.faults.Kind.{Kind}
use Rattle.common.specs.Kinds.{kind_name, kind_number}
use Rattle.hol_spec.specs.ClosedForm.{ClosedSequent, closed_form}
use Rattle.hol_spec.specs.Proofs.{Made, sequent_at, Accepted}
use Rattle.lp_spec.specs.Modules.{Declaration}
use Rattle.lp_spec.specs.declared.form.Form.{Form}
use Rattle.lp_spec.specs.declared.form.Form.TheVariants.{Thm}
use Rattle.lp_spec.specs.ReadingFaults.{Fault, NoPrelude, BadText, UnknownName, NameTwice, DkTooDeep, DkTooLong}
use Rattle.lp_spec.specs.Text.{written}
use Rattle.lp_spec.specs.Weight.{bound, greatest}
use Rattle.translate_spec.specs.Image.{image}
use Rattle.share_spec.specs.Folded.{folded}
use Rattle.decode_spec.specs.ClosedText.{closed_text}
use Rattle.bridge_spec.specs.declared.status.Status.{Status}
use Rattle.bridge_spec.specs.declared.status.Status.TheVariants.{Done, Refused, Usage, ReadFault, WriteFault, Memory, DkRefused, IllTyped, OverBudget, NotSequent, Unwritable}

-- the number with which the program ends
abbrev pub status_number : Status → ℕ
status_number Done = 0
status_number (Refused article line kind) = 1
status_number Usage = 2
status_number ReadFault = 3
status_number WriteFault = 4
status_number Memory = 5
status_number (DkRefused place kind) = 6
status_number (IllTyped i) = 7
status_number (OverBudget i) = 8
status_number (NotSequent i) = 9
status_number Unwritable = 10

-- a run's module: its image, or where the flag says so its image with shared abbreviations
abbrev pub module_of : Bool → Accepted → List Declaration
module_of false run = image run
module_of true run = folded (image run)

-- the bound of each declaration of a run's module
abbrev pub module_bounds : Bool → Accepted → List ℕ
module_bounds share run = map (bound (module_of share run)) (module_of share run)

-- the text of a run's module
abbrev pub module_text : Bool → Accepted → List ℕ
module_text share run = written (module_of share run) (module_bounds share run)

-- the bound that is written of a declaration: that of a theorem, and nothing of another
abbrev pub written_bound : Form → ℕ → ℕ
written_bound Thm bound = bound
written_bound _ bound = 0

-- the sum of the bounds that are written of a module
abbrev pub written_bounds : List Declaration → ℕ
written_bounds m = sum_by (λ d. written_bound d.form (bound m d)) m

-- what is counted of a run: its articles, what it assumes, its exports, the declarations of its module, and the sum of the bounds that are
-- written of these, as far as a number goes
pub record Counts : Type 0 where
  pub articles : ℕ
  pub assumptions : ℕ
  pub exports : ℕ
  pub declarations : ℕ
  pub bounds : ℕ

abbrev pub counts_of : Bool → ℕ → Accepted → Counts
counts_of share articles run = record {
  articles = articles;
  assumptions = length run.assumptions;
  exports = length run.exports;
  declarations = length (module_of share run);
  bounds = min (written_bounds (module_of share run)) greatest;
}

-- the five lines of an accepted run
abbrev pub five_lines : Counts → List ℕ
five_lines counts =
    codes "articles " ++ (decimal counts.articles
    ++ (codes "\nassumptions " ++ (decimal counts.assumptions
    ++ (codes "\nexports " ++ (decimal counts.exports
    ++ (codes "\ndeclarations " ++ (decimal counts.declarations
    ++ (codes "\nbounds " ++ (decimal counts.bounds ++ codes "\n")))))))))

-- the six lines of one whose module was checked
abbrev pub six_lines : Counts → List ℕ
six_lines counts = five_lines counts ++ codes "verified\n"

abbrev pub usage_line : List ℕ
usage_line = codes
    "usage: bridge verify [--share] [--fast] FILE.. | translate [--share] FILE.. | check FILE [--budget N] [--fast] | decode FILE | show FILE.. | trial N | article FILE..\n"

abbrev pub refusal_line : ℕ → ℕ → Kind → List ℕ
refusal_line article line kind =
    codes "article " ++ (decimal article ++ (codes " line " ++ (decimal line
    ++ (codes ": " ++ (kind_name kind ++ (codes " (" ++ (decimal (kind_number kind) ++ codes ")\n")))))))

abbrev pub read_fault_line : List ℕ
read_fault_line = codes "read fault\n"

abbrev pub write_fault_line : List ℕ
write_fault_line = codes "write fault\n"

abbrev pub memory_line : List ℕ
memory_line = codes "out of memory\n"

-- what a check counts of a module: its declarations, and those without a body
pub record Checked : Type 0 where
  pub declarations : ℕ
  pub unproved : ℕ

abbrev pub checked_of : List Declaration → Checked
checked_of m = record { declarations = length m; unproved = count_by (λ d. is_none d.body) m }

-- the line for a module that was accepted
abbrev pub accepted_line : Checked → List ℕ
accepted_line counts = codes "accepted " ++ (decimal counts.declarations ++ (codes ", unproved " ++ (decimal counts.unproved ++ codes "\n")))

-- the name of a text's fault
abbrev pub fault_name : Fault → List ℕ
fault_name NoPrelude = codes "NoPrelude"
fault_name BadText = codes "BadText"
fault_name (UnknownName name) = codes "UnknownName"
fault_name (NameTwice name) = codes "NameTwice"
fault_name DkTooDeep = codes "DkTooDeep"
fault_name DkTooLong = codes "DkTooLong"

-- the identifier of a fault, where it has one, and the blank before it
abbrev pub fault_identifier : Fault → List ℕ
fault_identifier (UnknownName name) = name
fault_identifier (NameTwice name) = name
fault_identifier _ = []

abbrev pub fault_blank : Fault → List ℕ
fault_blank (UnknownName name) = codes " "
fault_blank (NameTwice name) = codes " "
fault_blank _ = []

-- the line for a byte at which there is this fault: its name, a blank and an identifier
abbrev pub byte_line : ℕ → List ℕ → List ℕ → List ℕ → List ℕ
byte_line place name blank identifier =
    codes "byte " ++ (decimal place ++ (codes ": " ++ (name ++ (blank ++ (identifier ++ codes "\n")))))

-- the line for a text that is refused at this byte
abbrev pub dk_refusal_line : ℕ → Fault → List ℕ
dk_refusal_line place fault = byte_line place (fault_name fault) (fault_blank fault) (fault_identifier fault)

-- the line for a declaration of which this is said
abbrev pub declaration_line : ℕ → List ℕ → List ℕ
declaration_line i said = codes "declaration " ++ (decimal i ++ said)

abbrev pub ill_typed_line : ℕ → List ℕ
ill_typed_line i = declaration_line i (codes ": ill typed\n")

abbrev pub over_budget_line : ℕ → List ℕ
over_budget_line i = declaration_line i (codes ": over budget\n")

abbrev pub not_sequent_line : ℕ → List ℕ
not_sequent_line i = declaration_line i (codes ": not a sequent\n")

abbrev pub unwritable_line : List ℕ
unwritable_line = codes "article not writable\n"

-- the line for a theorem: what it is, its number, and its closed text
abbrev pub theorem_line : List ℕ → ℕ → ClosedSequent → List ℕ
theorem_line what number s = what ++ (decimal number ++ (codes ": " ++ (closed_text s ++ codes "\n")))

-- the lines for the theorems of these steps, numbered from this number on
abbrev pub theorem_lines : List ℕ → List Made → ℕ → List ℕ → List ℕ
theorem_lines what made number [] = []
theorem_lines what made number (i ∷ steps) = theorem_line what number (closed_form (sequent_at made i)) ++ theorem_lines what made (suc number) steps

-- what a run assumes, and then what it exports, each from 0 on
abbrev pub shown_text : Accepted → List ℕ
shown_text run = theorem_lines (codes "assumption ") run.made 0 run.assumptions ++ theorem_lines (codes "export ") run.made 0 run.exports

-- the line for an export of a module: its name, and the closed text of what it says
abbrev pub export_line : List ℕ → ClosedSequent → List ℕ
export_line name s = name ++ (codes ": " ++ (closed_text s ++ codes "\n"))

-- the lines for exports that say these, in order
abbrev pub export_lines : List Declaration → List ClosedSequent → List ℕ
export_lines [] ss = []
export_lines (d ∷ ds) [] = []
export_lines (d ∷ ds) (s ∷ ss) = export_line d.name s ++ export_lines ds ss
