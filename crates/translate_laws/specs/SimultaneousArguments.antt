-- A function of several arguments at its arguments, where all before are put in at once: the domains are told after a substitution.
use Rattle.std.proofs.Common.{◌≡◌, ℕ, zero, suc, List, [], ◌∷◌, ◌++◌, refl, ap, ◌∙◌}
use Rattle.std.proofs.Math.Path.{fun_ext}
use Rattle.lp_spec.specs.Trees.{Tree, Var, lift, put}
use Rattle.lp_spec.specs.Substitution.{ups, sub, cons}
use Rattle.lp_binding_laws.specs.Composition.{sub_ren, sub_sub, sub_var, put_is}
use Rattle.lp_binding_laws.specs.SubstitutionLaws.{lift_one}
use Rattle.lp_typing_laws.specs.Telescopes.{under}

-- the substitution that then puts these trees, the last for the innermost variable
abbrev pub after : (ℕ → Tree) → List Tree → ℕ → Tree
after s [] = s
after s (x ∷ xs) = after (cons x s) xs

pub after-append : (s : ℕ → Tree) (xs ys : List Tree) → after s (xs ++ ys) ≡ after (after s xs) ys
after-append s [] ys = refl
after-append s (x ∷ xs) ys = after-append (cons x s) xs ys

-- what is put in what was substituted under a binder is substituted at once
pub put-ups : (s : ℕ → Tree) (x t : Tree) → put x (sub (ups s) t) ≡ sub (cons x s) t
put-ups s x t = put_is x (sub (ups s) t) ∙ sub_sub (cons x Var) (ups s) t ∙ ap (λ w. sub w t) (fun_ext go)
  where
    go : (n : ℕ) → sub (cons x Var) (ups s n) ≡ cons x s n
    go zero = refl
    go (suc n) = sub_ren (cons x Var) suc (s n) ∙ sub_var (s n)

-- what was lifted has nothing for which a further tree is put
pub sub-cons_lift : (s : ℕ → Tree) (x t : Tree) → sub (cons x s) (lift 1 t) ≡ sub s t
sub-cons_lift s x t = ap (sub (cons x s)) (lift_one t) ∙ sub_ren (cons x s) suc t

-- contexts under joined domains
pub under-append : (G ds es : List Tree) → under G (ds ++ es) ≡ under (under G ds) es
under-append G [] es = refl
under-append G (d ∷ ds) es = under-append (d ∷ G) ds es
