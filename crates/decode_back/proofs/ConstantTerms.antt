-- The terms of constants.
use Rattle.std.proofs.Common.{◌≡◌, ℕ, ◌+◌, ◌<◌, ◌≤◌, List, ◌∷◌, ◌++◌, length, Option, Some, None, sym, ap, subst, ◌∙◌, arith}
use Rattle.std.specs.Prelude.{min, ◌^◌, ◌-◌}
use Rattle.hol_spec.specs.Names.{Name}
use Rattle.hol_spec.specs.Types.{HolType}
use Rattle.hol_spec.specs.Limits.{greatest_size, greatest_depth, type_size, type_depth, term_size, term_depth}
use Rattle.hol_spec.specs.Substitution.{TypePairs, substitute}
use Rattle.hol_spec.specs.Terms as term
use Rattle.hol_spec.specs.ClosedForm.{ClosedType, ClosedTerm}
use Rattle.common.specs.declared.faults.Kind.{Kind}
use Rattle.common.specs.declared.faults.Kind.TheVariants as kind
use Rattle.hol_type.specs.Refusals.{PassesLimit}
use Rattle.hol_term.specs.declared.TermId.{TermId}
use Rattle.hol_term.specs.Tables.{Trees, Holds, Keeps, type_at}
use Rattle.hol_type.specs.Tables as type
use Rattle.hol_type.specs.TableLaws.{Holds-tree_at}
use Rattle.lp_spec.specs.Trees.{Tree, Sym}
use Rattle.lp_spec.specs.Modules.{Declaration, applied, signature}
use Rattle.translate_spec.specs.TypeEnc.{Place}
use Rattle.translate_spec.specs.ConstantMeaning.{instance_of}
use Rattle.decode_spec.specs.Opened.{open_type}
use Rattle.decode_spec.specs.Decode.{Constant, constant_with, constant_at, term_from}
use Rattle.decode_laws.specs.TypeLaws.{count-stand}
use Rattle.decode_laws.specs.ConstantLaws.{constant_at-is}
use Rattle.decode_laws.specs.TermLaws.{term_from-constant}
use Rattle.decode_laws.specs.SizeLaws.{means-in_order}
use Rattle.decode_laws.specs.TermWalkLaws.{NoTerm, applied-append, dead-applied, dead-symbol, dead-argument, dead-instance, too_few, constant_from-stand}
use Rattle.decode_back.specs.Walks.{parameter_name, IsConstantFound}
use Rattle.decode_back.specs.TermWalks.{named_types, AreTaken, IsConstantMade, IsNoType, LacksTypes, IsHeadFound}
use Rattle.decode_back.specs.TermWalks as walks
use Rattle.decode_back.proofs.SubstitutionLemmas.{instance-open}
use Rattle.decode_back.proofs.UndeclaredLemmas.{constant_at-undeclared}

-- a type that is in the table stays there
pub type-held : (old new : Trees) (id : ℕ) (t : HolType) → Keeps old new → type.Holds old.types id t → type_at new id ≡ t
type-held old new id t k h = Holds-tree_at new.types id t (k.types.stays.each id t h)

passes : (k : Kind) (size depth : ℕ) → PassesLimit k size depth → size ≤ greatest_size → depth ≤ greatest_depth → ⊥
passes kind.TooLarge size depth p a b = omega (arith, p, a)
passes kind.TooDeep size depth p a b = omega (arith, p.1, b)
passes _ size depth p a b = p

module _ (name : Name) (t : HolType) (there left : ℕ) (trees : Trees) where
  -- a type that is refused, as a type or as that of a constant
  pub type_refused : (k : Kind) → PassesLimit k (type_size t) (type_depth t) → IsConstantMade name t there left trees None
  type_refused k p level l m a b = passes k _ _ p (omega (arith, a, l)) (omega (arith, b, m))

  pub constant_refused : (k : Kind) (u : HolType) → u ≡ t → PassesLimit k (term_size (term.Term.constant name u)) (term_depth (term.Term.constant name u))
      → IsConstantMade name t there left trees None
  constant_refused k u e p level l m a b =
      passes k _ _ (subst (λ v. PassesLimit k (term_size (term.Term.constant name v)) (term_depth (term.Term.constant name v))) e p) (omega (arith, a, l))
      (omega (arith, b, m))

  -- a constant that takes more than there is
  pub constant_short : (u : HolType) → u ≡ t → there < min (term_size (term.Term.constant name u)) (2 ^ 64 - 1) → IsConstantMade name t there left trees None
  constant_short u e short level l m a b = let z : type_size u ≡ type_size t = ap type_size e in omega (arith, a, short, z)

  -- and one that is made
  pub constant-made : (u : HolType) (id : TermId) → u ≡ t → there ≤ greatest_size → Holds trees id.0 (term.Term.constant name u)
      → left + min (term_size (term.Term.constant name u)) (2 ^ 64 - 1) ≡ there
      → IsConstantMade name t there left trees (Some id)
  constant-made u id e l h paid =
      let z : type_size u ≡ type_size t = ap type_size e in (subst (λ v. Holds trees id.0 (term.Term.constant name v)) e h, omega (arith, paid, z, l))

module _ (d : List Declaration) (at : Place) (types : List ClosedType) (level there s : ℕ) (xs : List Tree) where
  abbrev pub NoneHere : Type 0
  NoneHere = NoTerm parameter_name types there level (term_from d (applied (Sym s) xs) at)

  -- no constant within the limits
  pub no_constant_here : (trees : Trees) → level ≤ greatest_depth → IsConstantFound there (constant_at d s) trees None → NoneHere
  no_constant_here trees l none =
      dead-applied parameter_name types d at there level (Sym s) xs
      (dead-symbol parameter_name types d at there level s (λ k e a b. none k e (omega (arith, a)) (omega (arith, b, l))))

  pub undeclared_here : constant_at d s ≡ None → NoneHere
  undeclared_here e =
      dead-applied parameter_name types d at there level (Sym s) xs
      (dead-symbol parameter_name types d at there level s (λ k f a b. let g : ◌≡◌ {A = Option Constant} None (Some k) = sym e ∙ f in absurd (cc)))

  pub undeclared-head : (left : ℕ) (ys : List Tree) (trees : Trees) → length (signature ++ d) ≤ s
      → IsHeadFound level types there left d at (Sym s) xs ys trees None
  undeclared-head left ys trees l = undeclared_here (constant_at-undeclared d s l)

  module _ (name : Name) (variables : ℕ) (generic : ClosedType) (found : constant_at d s ≡ Some (constant_with name variables generic)) where
    -- without types for its variables
    pub lacks_types : there ≤ greatest_size → LacksTypes level d at variables xs → NoneHere
    lacks_types l (walks.LacksTypes.too_few m) c e a b = too_few parameter_name types d at s (constant_with name variables generic) xs found m c e
    lacks_types l (walks.LacksTypes.no_type h) c e a b =
        let dead = dead-argument parameter_name types d at there level s (constant_with name variables generic) h.taken h.X found h.few
        (λ t f m n. h.none t f (omega (arith, m, l)) n) in
        dead-applied parameter_name types d at there level _ h.rest dead c
        (ap (λ A. term_from d A at) (sym (applied-append (Sym s) h.taken (h.X ∷ h.rest)) ∙ ap (applied (Sym s)) (sym h.is)) ∙ e) a b

    module _ (rest : List Tree) (pairs : TypePairs) (taken : AreTaken d at variables xs rest pairs) where
      count : variables ≡ length taken.taken
      count = sym taken.many

      abbrev instance : ClosedType
      instance = instance_of taken.types generic

      -- the instance is that of the pairs
      pub instance-is : substitute pairs (open_type parameter_name generic) ≡ open_type parameter_name instance
      instance-is =
          ap (λ ps. substitute ps (open_type parameter_name generic)) taken.pairs_are
          ∙ instance-open taken.types generic variables
          (means-in_order parameter_name d s name variables generic (constant_at-is d s (constant_with name variables generic) found))
          (count ∙ sym (count-stand d at taken.types taken.taken taken.stand))

      whole : applied (Sym s) xs ≡ applied (applied (Sym s) taken.taken) rest
      whole = ap (applied (Sym s)) taken.is ∙ applied-append (Sym s) taken.taken rest

      large_here : (1 + type_size (open_type parameter_name instance) ≤ there → 1 + type_depth (open_type parameter_name instance) ≤ level → ⊥) → NoneHere
      large_here h c e a b =
          dead-applied parameter_name types d at there level (applied (Sym s) taken.taken) rest
          (dead-instance parameter_name types d at there level s (constant_with name variables generic) taken.taken taken.types found taken.stand count h) c
          (ap (λ A. term_from d A at) (sym whole) ∙ e) a b

      -- and the constant of its instance, made or refused
      pub constant-head : (left : ℕ) (t : HolType) (trees : Trees) (o : Option TermId) → there ≤ greatest_size → level ≤ greatest_depth → t
          ≡ substitute pairs (open_type parameter_name generic)
          → IsConstantMade name t there left trees o → IsHeadFound level types there left d at (Sym s) xs rest trees o
      constant-head left t trees None l m e h =
          let z : t ≡ open_type parameter_name instance = e ∙ instance-is in
          large_here (λ a b. h level l m (subst (λ u. 1 + type_size u ≤ there) (sym z) a) (subst (λ u. 1 + type_depth u ≤ level) (sym z) b))
      constant-head left t trees (Some id) l m e h =
          let z : t ≡ open_type parameter_name instance = e ∙ instance-is in (
            taken.taken,
            taken.is,
            (
              ClosedTerm.constant name instance,
              term_from-constant d (applied (Sym s) taken.taken) at _
                  (constant_from-stand parameter_name types d at s taken.taken taken.types (constant_with name variables generic) found taken.stand count),
              subst (λ u. Holds trees id.0 (term.Term.constant name u)) z h.0,
              subst (λ u. left + (1 + type_size u) ≡ there) z h.1,
            ),
          )
