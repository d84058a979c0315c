-- What is written of a term under binders: a term without loose bound numbers is built at its first place and then told by its key,
-- any other is built each time. A binder is written as a variable with a name of its own, for which its bound numbers stand.
use Rattle.std.specs.Prelude.{ℕ, ◌==◌, Bool, true, false, List, [], ◌∷◌, length, slice_index_or}
use Rattle.hol_spec.specs.Types.{HolType}
use Rattle.hol_spec.specs.Terms.{Term, Variable}
use Rattle.hol_spec.specs.TermBinding.{loose}
use Rattle.hol_spec.specs.Primitives.{bool}
use Rattle.article_spec.specs.declared.commands.Word.TheVariants as word
use Rattle.article_write_spec.specs.BinderNames.{binder_name}
use Rattle.article_write_spec.specs.Drafts.{Kept, Draft, say_name, say_word, once}
use Rattle.article_write_spec.specs.WrittenTypes.{write_type, write_variable}

-- the variable of a bound number, the innermost binder first; there is always one
abbrev pub binder_at : List Variable → ℕ → Variable
binder_at binders k = slice_index_or binders k ([], bool)

abbrev pub once_closed : Bool → Term → (Draft → Draft) → Draft → Draft
once_closed true t build d = once (Kept.term t) build d
once_closed false t build d = build d

-- once where nothing is loose
abbrev pub shared : Term → (Draft → Draft) → Draft → Draft
shared t build d = once_closed (loose t == 0) t build d

module _ (q : ℕ) where
  -- the variable of one more binder under these
  abbrev pub next_binder : List Variable → HolType → Variable
  next_binder binders a = (binder_name q (length binders), a)

  abbrev pub write_under : List Variable → Term → Draft → Draft
  write_under binders (Term.free n a) d = shared (Term.free n a) (λ e. say_word word.VarTerm (write_variable (n, a) e)) d
  write_under binders (Term.bound k) d = say_word word.VarTerm (write_variable (binder_at binders k) d)
  write_under binders (Term.constant n a) d = shared (Term.constant n a) (λ e. say_word word.ConstTerm (write_type a (say_word word.Const (say_name n e)))) d
  write_under binders (Term.app f x) d = shared (Term.app f x) (λ e. say_word word.AppTerm (write_under binders x (write_under binders f e))) d
  write_under binders (Term.lam a b) d =
      shared (Term.lam a b) (λ e. say_word word.AbsTerm (write_under (next_binder binders a ∷ binders) b (write_variable (next_binder binders a) e))) d

  abbrev pub write_term : Term → Draft → Draft
  write_term t d = write_under [] t d
