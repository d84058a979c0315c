-- Trees of shaped declarations are closed, over what is declared before, and without the sort of kinds: all that `IsModule` asks but new names.
use Rattle.std.proofs.Common.{◌≡◌, inl, inr, suc, ◌≤◌, List, ◌++◌, length, Option, Some, None, refl, arith}
use Rattle.std.specs.Prelude.{slice_get, option_map, IsFalse}
use Rattle.std.proofs.lemmas.Option.{slice_get_within}
use Rattle.lp_spec.specs.declared.form.Form.{Form}
use Rattle.lp_spec.specs.declared.form.Form.TheVariants.{Symbol, Def, Thm}
use Rattle.lp_spec.specs.Trees.{Tree, SortType, SortKind, Var, Sym, App, Lam, Pi, loose}
use Rattle.lp_spec.specs.Modules.{Declaration, signature}
use Rattle.lp_spec.specs.ModuleOrder.{has_kind, symbols, IsOver, IsBodyOver}
use Rattle.lp_typing_laws.specs.Soundness.{IsSound}
use Rattle.lp_spec.specs.Typing.{IsBodyOf}
use Rattle.lp_typing_laws.specs.TypingLaws.{Typed-closed}
use Rattle.lp_spec.specs.Shaped.{IsBodyShaped, IsShaped}
use Rattle.lp_check_laws.specs.ShapedPasses.{shaped-typed}
use Rattle.lp_check_laws.specs.PricedModules.{IsKnown, declared-known, proof-known, definition-known, law-known, call-known}

known-kindless : (m : List Declaration) (t : Tree) → IsKnown m t → IsFalse (has_kind t)
known-kindless m SortType h = refl
known-kindless m SortKind h = absurd h
known-kindless m (Var n) h = refl
known-kindless m (Sym s) h = refl
known-kindless m (App f x) h = rw (known-kindless m f h.0) (known-kindless m x h.1)
known-kindless m (Lam a b) h = rw (known-kindless m a h.0) (known-kindless m b h.1)
known-kindless m (Pi a b) h = rw (known-kindless m a h.0) (known-kindless m b h.1)

known-symbols : (m : List Declaration) (t : Tree) → IsKnown m t → symbols t ≤ length (signature ++ m)
known-symbols m SortType h = omega arith
known-symbols m SortKind h = absurd h
known-symbols m (Var n) h = omega arith
known-symbols m (Sym s) h = go (slice_get (signature ++ m) s) refl h.1
  where
    go : (o : Option Declaration) → slice_get (signature ++ m) s ≡ o → option_map (λ (d : Declaration). d.ty) o ≡ Some h.0 → suc s ≤ length (signature ++ m)
    go None e k = absurd (cc)
    go (Some d) e k = let w = slice_get_within (signature ++ m) s d e in omega (arith, w)
known-symbols m (App f x) h = omega (arith, known-symbols m f h.0, known-symbols m x h.1)
known-symbols m (Lam a b) h = omega (arith, known-symbols m a h.0, known-symbols m b h.1)
known-symbols m (Pi a b) h = omega (arith, known-symbols m a h.0, known-symbols m b h.1)

over : (m : List Declaration) (t : Tree) → loose t ≡ 0 → IsKnown m t → IsOver (length (signature ++ m)) t
over m t c h = record { closed = c; kindless = known-kindless m t h; known = known-symbols m t h }

-- what is shaped may follow, where its name is new
pub shaped-over : (m : List Declaration) (d : Declaration) → IsSound m → IsShaped m d
    → IsOver (length (signature ++ m)) d.ty × IsBodyOver (length (signature ++ m)) d.form d.body
shaped-over m d sound h =
    let t = shaped-typed m d sound h in
    (over m d.ty (Typed-closed t.ty) (declared-known m h.ty), body d.form d.body d.ty h.body t.body)
  where
    body : (f : Form) (b : Option Tree) (A : Tree) → IsBodyShaped m f b A → IsBodyOf m f b A → IsBodyOver (length (signature ++ m)) f b
    body Symbol b A h t = h
    body Def None A h t = absurd h
    body Def (Some x) A (inl h) t = over m x (Typed-closed t) (definition-known m h)
    body Def (Some x) A (inr h) t = over m x (Typed-closed t) (call-known m h.0)
    body Thm None A h t = absurd h
    body Thm (Some x) A (inl h) t = over m x (Typed-closed t) (proof-known m h.proof)
    body Thm (Some x) A (inr h) t = over m x (Typed-closed t) (law-known m h.law)
