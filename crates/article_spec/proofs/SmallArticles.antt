-- Commands for worked examples: what stands in the lines of small articles.
use Rattle.std.specs.Prelude.{ℕ, ◌+◌, pos, List, [], ◌∷◌, ◌++◌, map, Result, Ok, Err, codes}
use Rattle.hol_spec.specs.Primitives.{bool}
use Rattle.hol_spec.specs.Terms.{Term}
use Rattle.hol_spec.specs.Sequents.{Sequent}
use Rattle.common.specs.declared.faults.Kind.{Kind}
use Rattle.article_spec.specs.declared.commands.Command.{Command}
use Rattle.article_spec.specs.declared.commands.Item.{Item}
use Rattle.article_spec.specs.declared.commands.Item.TheVariants as item
use Rattle.article_spec.specs.declared.commands.Word.{Word}
use Rattle.article_spec.specs.declared.commands.Word.TheVariants as word
use Rattle.hol_spec.specs.Symbols.{Symbol}
use Rattle.hol_spec.specs.Proofs.{sequents_of, symbols_of, steps_of}
use Rattle.hol_spec.specs.declared.StepKind.{StepKind}
use Rattle.article_spec.specs.State.{State, initial}
use Rattle.article_spec.specs.Run.{machine, obey_all}

abbrev pub lines : ℕ → List Item → List Command
lines n [] = []
lines n (i ∷ is) = record { line = n; «item» = i } ∷ lines (n + 1) is

abbrev pub w : Word → Item
w x = item.Word x

abbrev pub n : List ℕ → Item
n text = item.Name (text ∷ [])

abbrev pub header : List Item
header = item.Number (pos 6) ∷ w word.Version ∷ []

-- what an article gives before its end
abbrev pub obeyed : List Item → Result State (ℕ × Kind)
obeyed body = obey_all machine initial (lines 1 (header ++ body))

-- a list object, of what the parts push
abbrev ends : {A : Type 0} → List A → List Item
ends [] = []
ends (x ∷ xs) = w word.Cons ∷ ends xs

abbrev join : List (List Item) → List Item
join [] = []
join (xs ∷ xss) = xs ++ join xss

abbrev pub listed : List (List Item) → List Item
listed parts = join parts ++ w word.Nil ∷ ends parts

abbrev pub bool_type : List Item
bool_type = n (codes "bool") ∷ w word.TypeOp ∷ w word.Nil ∷ w word.OpType ∷ []

abbrev pub type_variable : List ℕ → List Item
type_variable text = n text ∷ w word.VarType ∷ []

abbrev pub to : List Item → List Item → List Item
to a b = n (codes "->") ∷ w word.TypeOp ∷ listed (a ∷ b ∷ []) ++ w word.OpType ∷ []

abbrev pub variable : List ℕ → List Item → List Item
variable text a = n text ∷ a ++ w word.Var ∷ []

abbrev pub free : List ℕ → List Item → List Item
free text a = variable text a ++ w word.VarTerm ∷ []

abbrev pub constant : List ℕ → List Item → List Item
constant text a = n text ∷ w word.Const ∷ a ++ w word.ConstTerm ∷ []

abbrev pub applied : List Item → List Item → List Item
applied f x = f ++ x ++ w word.AppTerm ∷ []

abbrev pub abstracted : List Item → List Item → List Item
abstracted v t = v ++ t ++ w word.AbsTerm ∷ []

abbrev pub equals : List Item → List Item → List Item → List Item
equals a s t = applied (applied (constant (codes "=") (to a (to a bool_type))) s) t

-- W(x) and V(x)
abbrev pub W : List ℕ → List Item
W x = variable x bool_type

abbrev pub V : List ℕ → List Item
V x = free x bool_type

-- what a run made, and its refusal
abbrev pub sequents : Result State (ℕ × Kind) → List Sequent
sequents (Ok s) = sequents_of s.made
sequents (Err r) = []

abbrev pub kinds : Result State (ℕ × Kind) → List StepKind
kinds (Ok s) = map (λ x. x.kind) (steps_of s.made)
kinds (Err r) = []

abbrev pub symbols : Result State (ℕ × Kind) → List Symbol
symbols (Ok s) = symbols_of s.made
symbols (Err r) = []

abbrev pub numbers : Result State (ℕ × Kind) → List ℕ × List ℕ × List ℕ
numbers (Ok s) = (s.assumptions, s.exports, s.pool)
numbers (Err r) = ([], [], [])

abbrev pub named : List ℕ → List (List ℕ)
named text = text ∷ []

abbrev pub boolean : List ℕ → Term
boolean text = Term.free (named text) bool
