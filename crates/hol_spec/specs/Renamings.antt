-- Renaming of type variables and free variables; when a renaming, one to one on those of the first sequent, takes one sequent to another.
use Rattle.std.specs.Prelude.{◌≡◌, map}
use Rattle.hol_spec.specs.Names.{Name}
use Rattle.hol_spec.specs.Lists.{IsIn}
use Rattle.hol_spec.specs.Types.{HolType, HolTypes, variable, operator, none, more}
use Rattle.hol_spec.specs.Terms.{Term, free, bound, constant, app, lam, Variable}
use Rattle.hol_spec.specs.Sequents.{Sequent, type_variables_of, free_variables_of}
use Rattle.hol_spec.specs.ClosedForm.{closed_form}

abbrev mutual
  pub renamed_type : (Name → Name) → HolType → HolType
  renamed_type r (variable n) = variable (r n)
  renamed_type r (operator n ts) = operator n (renamed_types r ts)

  pub renamed_types : (Name → Name) → HolTypes → HolTypes
  renamed_types r none = none
  renamed_types r (more t ts) = more (renamed_type r t) (renamed_types r ts)

abbrev pub renamed_variable : (Name → Name) → (Variable → Name) → Variable → Variable
renamed_variable r q v = (q v, renamed_type r v.1)

abbrev pub renamed : (Name → Name) → (Variable → Name) → Term → Term
renamed r q (free n t) = free (q (n, t)) (renamed_type r t)
renamed r q (bound k) = bound k
renamed r q (constant n t) = constant n (renamed_type r t)
renamed r q (app f x) = app (renamed r q f) (renamed r q x)
renamed r q (lam t b) = lam (renamed_type r t) (renamed r q b)

abbrev pub renamed_sequent : (Name → Name) → (Variable → Name) → Sequent → Sequent
renamed_sequent r q s = record { hypotheses = map (renamed r q) s.hypotheses; conclusion = renamed r q s.conclusion }

-- `r` names type variables and `q` free variables, no two of the sequent alike (a free variable is a name and a type), and the sequent with these
-- names, hypotheses in order, is the other.
pub record IsRenaming (r : Name → Name) (q : Variable → Name) (s t : Sequent) : Type 0 where
  pub type_variables_apart : (m n : Name) → IsIn (type_variables_of s) m → IsIn (type_variables_of s) n → r m ≡ r n → m ≡ n
  pub free_variables_apart : (v w : Variable) → IsIn (free_variables_of s) v → IsIn (free_variables_of s) w → renamed_variable r q v ≡ renamed_variable r q w
      → v ≡ w
  pub takes : renamed_sequent r q s ≡ t

-- Some renaming takes the first to the second.
pub record AreAlike (s t : Sequent) : Type 0 where
  pub type_names : Name → Name
  pub names : Variable → Name
  pub is_renaming : IsRenaming type_names names s t

-- Two sequents have one closed form exactly where they are alike.
abbrev pub ClosedFormsAlike : Type 0
ClosedFormsAlike = (s t : Sequent) → (closed_form s ≡ closed_form t → AreAlike s t) × (AreAlike s t → closed_form s ≡ closed_form t)
