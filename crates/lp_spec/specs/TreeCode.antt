-- A code of trees, by which a proof tells them apart: the tree in postfix order, and a stack that reads it back.
use Rattle.std.specs.Prelude.{◌≡◌, ℕ, zero, suc, List, [], ◌∷◌, ◌++◌, refl}
use Rattle.std.specs.Coded.{Coded, code_by, coded×, coded_ℕ, coded_list}
use Rattle.std.proofs.Common.{◌∙◌, ap, sym, append_assoc}
use Rattle.std.proofs.lemmas.List.{append-nil}
use Rattle.lp_spec.specs.Trees.{Tree, SortType, SortKind, Var, Sym, App, Lam, Pi}

abbrev pub tokens : Tree → List (ℕ × ℕ)
tokens SortType = (0, 0) ∷ []
tokens SortKind = (1, 0) ∷ []
tokens (Var n) = (2, n) ∷ []
tokens (Sym n) = (3, n) ∷ []
tokens (App f x) = tokens f ++ (tokens x ++ (4, 0) ∷ [])
tokens (Lam a b) = tokens a ++ (tokens b ++ (5, 0) ∷ [])
tokens (Pi a b) = tokens a ++ (tokens b ++ (6, 0) ∷ [])

abbrev pub joined : (Tree → Tree → Tree) → List Tree → List Tree
joined f (x ∷ y ∷ s) = f y x ∷ s
joined f _ = []

abbrev pub token_on : ℕ → ℕ → List Tree → List Tree
token_on zero n s = SortType ∷ s
token_on (suc zero) n s = SortKind ∷ s
token_on (suc (suc zero)) n s = Var n ∷ s
token_on (suc (suc (suc zero))) n s = Sym n ∷ s
token_on (suc (suc (suc (suc zero)))) n s = joined App s
token_on (suc (suc (suc (suc (suc zero))))) n s = joined Lam s
token_on (suc (suc (suc (suc (suc (suc m)))))) n s = joined Pi s

abbrev pub tokens_on : List (ℕ × ℕ) → List Tree → List Tree
tokens_on [] s = s
tokens_on (t ∷ ts) s = tokens_on ts (token_on t.0 t.1 s)

abbrev pub first_tree : List Tree → Tree
first_tree [] = SortType
first_tree (t ∷ ts) = t

abbrev pub from_tokens : List (ℕ × ℕ) → Tree
from_tokens ts = first_tree (tokens_on ts [])

pub read_back : (t : Tree) (ts : List (ℕ × ℕ)) (s : List Tree) → tokens_on (tokens t ++ ts) s ≡ tokens_on ts (t ∷ s)
read_back SortType ts s = refl
read_back SortKind ts s = refl
read_back (Var n) ts s = refl
read_back (Sym n) ts s = refl
read_back (App f x) ts s =
    ap (λ l. tokens_on l s) (append_assoc (tokens f) (tokens x ++ (4, 0) ∷ []) ts) ∙ read_back f ((tokens x ++ (4, 0) ∷ []) ++ ts) s
    ∙ ap (λ l. tokens_on l (f ∷ s)) (append_assoc (tokens x) ((4, 0) ∷ []) ts) ∙ read_back x ((4, 0) ∷ ts) (f ∷ s)
read_back (Lam f x) ts s =
    ap (λ l. tokens_on l s) (append_assoc (tokens f) (tokens x ++ (5, 0) ∷ []) ts) ∙ read_back f ((tokens x ++ (5, 0) ∷ []) ++ ts) s
    ∙ ap (λ l. tokens_on l (f ∷ s)) (append_assoc (tokens x) ((5, 0) ∷ []) ts) ∙ read_back x ((5, 0) ∷ ts) (f ∷ s)
read_back (Pi f x) ts s =
    ap (λ l. tokens_on l s) (append_assoc (tokens f) (tokens x ++ (6, 0) ∷ []) ts) ∙ read_back f ((tokens x ++ (6, 0) ∷ []) ++ ts) s
    ∙ ap (λ l. tokens_on l (f ∷ s)) (append_assoc (tokens x) ((6, 0) ∷ []) ts) ∙ read_back x ((6, 0) ∷ ts) (f ∷ s)

pub from_tokens_back : (t : Tree) → from_tokens (tokens t) ≡ t
from_tokens_back t = ap (λ l. from_tokens l) (sym (append-nil (tokens t))) ∙ ap first_tree (read_back t [] [])

abbrev pub coded_tree : Coded Tree
coded_tree = code_by (List (ℕ × ℕ)) (coded_list (coded× coded_ℕ coded_ℕ)) tokens from_tokens from_tokens_back
