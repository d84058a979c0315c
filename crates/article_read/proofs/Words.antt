-- A word is found in a table of words whatever the order of the table.
use Rattle.std.proofs.Common.{◌≡◌, ℕ, Bool, true, false, cond, List, [], ◌∷◌, Option, None, Some, codes, refl, sym, ap, ◌∙◌}
use Rattle.std.specs.List.{AllByRecursion}
use Rattle.std.specs.Str.{bytes_eq}
use Rattle.std.proofs.lemmas.Slice.Eq.{bytes_eq-Decides}
use Rattle.article_spec.specs.declared.commands.Word.{Word}
use Rattle.article_spec.specs.declared.commands.Word.TheVariants as word
use Rattle.article_read.specs.Judged.{looked_up}

abbrev pub Table : Type 0
Table = List (List ℕ × Word)

-- each entry of the first table is found in the second
abbrev pub AreIn : Table → Table → Type 0
AreIn xs ys = AllByRecursion (λ entry. looked_up entry.0 ys ≡ Some entry.1) xs

found_at : (text : List ℕ) (entry : List ℕ × Word) (xs ys : Table) (b : Bool) (w : Word) → bytes_eq text entry.0 ≡ b → looked_up entry.0 ys ≡ Some entry.1
    → (looked_up text xs ≡ Some w → looked_up text ys ≡ Some w) → cond b (Some entry.1) (looked_up text xs) ≡ Some w → looked_up text ys ≡ Some w
found_at text entry xs ys true w e here others h = ap (λ t. looked_up t ys) ((bytes_eq-Decides text entry.0).0 e) ∙ here ∙ h
found_at text entry xs ys false w e here others h = others h

found_in : (text : List ℕ) (xs ys : Table) → AreIn xs ys → (w : Word) → looked_up text xs ≡ Some w → looked_up text ys ≡ Some w
found_in text [] ys h w is = absurd (cc)
found_in text (entry ∷ xs) ys h w is =
    found_at text entry xs ys (bytes_eq text entry.0) w refl h.0 (found_in text xs ys h.1 w) is

one_answer : (x y : Option Word) → ((w : Word) → x ≡ Some w → y ≡ Some w) → ((w : Word) → y ≡ Some w → x ≡ Some w) → x ≡ y
one_answer None None f g = refl
one_answer None (Some w) f g = g w refl
one_answer (Some w) y f g = sym (f w refl)

-- tables of the same entries answer the same
pub looked_up-same : (text : List ℕ) (xs ys : Table) → AreIn xs ys → AreIn ys xs → looked_up text xs ≡ looked_up text ys
looked_up-same text xs ys h k = one_answer (looked_up text xs) (looked_up text ys) (found_in text xs ys h) (found_in text ys xs k)

-- the words in the order of their definition
abbrev pub defined : Table
defined =
    (codes "version", word.Version)
    ∷ (codes "nil", word.Nil)
    ∷ (codes "cons", word.Cons)
    ∷ (codes "hdTl", word.HdTl)
    ∷ (codes "typeOp", word.TypeOp)
    ∷ (codes "varType", word.VarType)
    ∷ (codes "opType", word.OpType)
    ∷ (codes "const", word.Const)
    ∷ (codes "constTerm", word.ConstTerm)
    ∷ (codes "var", word.Var)
    ∷ (codes "varTerm", word.VarTerm)
    ∷ (codes "appTerm", word.AppTerm)
    ∷ (codes "absTerm", word.AbsTerm)
    ∷ (codes "def", word.Def)
    ∷ (codes "ref", word.Ref)
    ∷ (codes "remove", word.Remove)
    ∷ (codes "pop", word.Pop)
    ∷ (codes "pragma", word.Pragma)
    ∷ (codes "refl", word.Refl)
    ∷ (codes "assume", word.Assume)
    ∷ (codes "eqMp", word.EqMp)
    ∷ (codes "absThm", word.AbsThm)
    ∷ (codes "appThm", word.AppThm)
    ∷ (codes "deductAntisym", word.DeductAntisym)
    ∷ (codes "betaConv", word.BetaConv)
    ∷ (codes "sym", word.Sym)
    ∷ (codes "trans", word.Trans)
    ∷ (codes "proveHyp", word.ProveHyp)
    ∷ (codes "subst", word.Subst)
    ∷ (codes "defineConst", word.DefineConst)
    ∷ (codes "defineConstList", word.DefineConstList)
    ∷ (codes "defineTypeOp", word.DefineTypeOp)
    ∷ (codes "axiom", word.Axiom)
    ∷ (codes "thm", word.Thm)
    ∷ []

-- the words in the order of the reader's table
abbrev pub frequent : Table
frequent =
    (codes "ref", word.Ref)
    ∷ (codes "cons", word.Cons)
    ∷ (codes "nil", word.Nil)
    ∷ (codes "def", word.Def)
    ∷ (codes "remove", word.Remove)
    ∷ (codes "subst", word.Subst)
    ∷ (codes "appTerm", word.AppTerm)
    ∷ (codes "eqMp", word.EqMp)
    ∷ (codes "refl", word.Refl)
    ∷ (codes "proveHyp", word.ProveHyp)
    ∷ (codes "appThm", word.AppThm)
    ∷ (codes "trans", word.Trans)
    ∷ (codes "assume", word.Assume)
    ∷ (codes "betaConv", word.BetaConv)
    ∷ (codes "absTerm", word.AbsTerm)
    ∷ (codes "absThm", word.AbsThm)
    ∷ (codes "deductAntisym", word.DeductAntisym)
    ∷ (codes "sym", word.Sym)
    ∷ (codes "var", word.Var)
    ∷ (codes "varTerm", word.VarTerm)
    ∷ (codes "opType", word.OpType)
    ∷ (codes "constTerm", word.ConstTerm)
    ∷ (codes "pop", word.Pop)
    ∷ (codes "defineConst", word.DefineConst)
    ∷ (codes "varType", word.VarType)
    ∷ (codes "typeOp", word.TypeOp)
    ∷ (codes "const", word.Const)
    ∷ (codes "axiom", word.Axiom)
    ∷ (codes "thm", word.Thm)
    ∷ (codes "defineTypeOp", word.DefineTypeOp)
    ∷ (codes "defineConstList", word.DefineConstList)
    ∷ (codes "hdTl", word.HdTl)
    ∷ (codes "pragma", word.Pragma)
    ∷ (codes "version", word.Version)
    ∷ []

-- both tables answer the same
pub looked_up-frequent : (text : List ℕ) → looked_up text frequent ≡ looked_up text defined
looked_up-frequent text = looked_up-same text frequent defined (
  refl,
  (
    refl,
    (
      refl,
      (
        refl,
        (
          refl,
          (
            refl,
            (
              refl,
              (
                refl,
                (
                  refl,
                  (
                    refl,
                    (
                      refl,
                      (
                        refl,
                        (
                          refl,
                          (
                            refl,
                            (
                              refl,
                              (
                                refl,
                                (
                                  refl,
                                  (
                                    refl,
                                    (
                                      refl,
                                      (
                                        refl,
                                        (
                                          refl,
                                          (refl, (refl, (refl, (refl, (refl, (refl, (refl, (refl, (refl, (refl, (refl, (refl, (refl, tt))))))))))))),
                                        ),
                                      ),
                                    ),
                                  ),
                                ),
                              ),
                            ),
                          ),
                        ),
                      ),
                    ),
                  ),
                ),
              ),
            ),
          ),
        ),
      ),
    ),
  ),
) (
  refl,
  (
    refl,
    (
      refl,
      (
        refl,
        (
          refl,
          (
            refl,
            (
              refl,
              (
                refl,
                (
                  refl,
                  (
                    refl,
                    (
                      refl,
                      (
                        refl,
                        (
                          refl,
                          (
                            refl,
                            (
                              refl,
                              (
                                refl,
                                (
                                  refl,
                                  (
                                    refl,
                                    (
                                      refl,
                                      (
                                        refl,
                                        (
                                          refl,
                                          (refl, (refl, (refl, (refl, (refl, (refl, (refl, (refl, (refl, (refl, (refl, (refl, (refl, tt))))))))))))),
                                        ),
                                      ),
                                    ),
                                  ),
                                ),
                              ),
                            ),
                          ),
                        ),
                      ),
                    ),
                  ),
                ),
              ),
            ),
          ),
        ),
      ),
    ),
  ),
)
