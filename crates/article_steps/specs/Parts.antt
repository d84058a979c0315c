-- What is written of a type and of a term that have no key, before they get one.
use Rattle.std.specs.Prelude.{ℕ, List, [], ◌∷◌}
use Rattle.hol_spec.specs.Types.{HolType, listed, count}
use Rattle.hol_spec.specs.Terms.{Term, Variable}
use Rattle.article_spec.specs.declared.commands.Word.TheVariants as word
use Rattle.article_write_spec.specs.Drafts.{Draft, say_name, say_word, conses}
use Rattle.article_write_spec.specs.WrittenTypes.{write_type, write_types, write_variable}
use Rattle.article_write_spec.specs.WrittenTerms.{binder_at, next_binder, write_under}

-- what builds a type that has no key
abbrev pub build_type : HolType → Draft → Draft
build_type (HolType.variable n) d = say_word word.VarType (say_name n d)
build_type (HolType.operator n ts) d = say_word word.OpType (conses (count ts) (say_word word.Nil (write_types ts (say_word word.TypeOp (say_name n d)))))

abbrev pub arguments : HolType → List HolType
arguments (HolType.variable n) = []
arguments (HolType.operator n ts) = listed ts

-- what builds a term under binders that has no key
abbrev pub build_under : ℕ → List Variable → Term → Draft → Draft
build_under q vs (Term.free n a) d = say_word word.VarTerm (write_variable (n, a) d)
build_under q vs (Term.bound k) d = say_word word.VarTerm (write_variable (binder_at vs k) d)
build_under q vs (Term.constant n a) d = say_word word.ConstTerm (write_type a (say_word word.Const (say_name n d)))
build_under q vs (Term.app f x) d = say_word word.AppTerm (write_under q vs x (write_under q vs f d))
build_under q vs (Term.lam a b) d = say_word word.AbsTerm (write_under q (next_binder q vs a ∷ vs) b (write_variable (next_binder q vs a) d))
