-- Reading a mangled text component by component: what was read stands in front, and a text that stops elsewhere is that of no name.
use Rattle.std.proofs.Common.{◌≡◌, ◌≢◌, ◌⊎◌, ◌<◌, inl, inr, ℕ, List, [], ◌∷◌, ◌++◌, refl, sym, ap, ◌∙◌}
use Rattle.std.specs.List.{AllByRecursion}
use Rattle.hol_spec.specs.Names.{Name}
use Rattle.hol_spec.specs.Mangling.{underscore, mangled_before, mangled_more, mangled, AreBytes, IsName}
use Rattle.hol_laws.specs.ManglingLaws.{Follows, IsByteless, follows-byteless, follows-more, same_component, mangled_more-byteless}
use Rattle.hol_name.specs.Behind.{IsFault}
use Rattle.hol_name.specs.Demangled.{HasNoName}

-- components, each with the boundary behind it, before other text
abbrev pub joined : Name → List ℕ → List ℕ
joined [] rest = rest
joined (c ∷ cs) rest = mangled_before c (underscore ∷ underscore ∷ joined cs rest)

-- a further component stands behind the others
pub joined-push : (cs : Name) (c rest : List ℕ) → joined (cs ++ c ∷ []) rest ≡ joined cs (mangled_before c (underscore ∷ underscore ∷ rest))
joined-push [] c rest = refl
joined-push (d ∷ ds) c rest = ap (λ x. mangled_before d (underscore ∷ underscore ∷ x)) (joined-push ds c rest)

joined-more : (ds : Name) (c : List ℕ) → underscore ∷ underscore ∷ joined ds (mangled_before c []) ≡ mangled_more (ds ++ c ∷ [])
joined-more [] c = refl
joined-more (d ∷ ds) c = ap (λ x. underscore ∷ underscore ∷ mangled_before d x) (joined-more ds c)

-- with the last component they are the text of a name
pub joined-last : (cs : Name) (c : List ℕ) → joined cs (mangled_before c []) ≡ mangled (cs ++ c ∷ [])
joined-last [] c = refl
joined-last (d ∷ ds) c = ap (mangled_before d) (joined-more ds c)

boundary-byteless : (rest : List ℕ) → IsByteless (underscore ∷ underscore ∷ rest)
boundary-byteless rest = follows-byteless (underscore ∷ underscore ∷ rest) (inr (rest, refl))

-- what follows a name's component is its end or a boundary
stops-elsewhere : (after : List ℕ) → IsFault after → (n : Name) → mangled_more n ≡ after → ⊥
stops-elsewhere after fault n e = go (follows-more n)
  where
    go : Follows (mangled_more n) → ⊥
    go (inl h) = fault.some (sym e ∙ h)
    go (inr h) = fault.no_boundary h.0 (sym e ∙ h.1)

-- behind a boundary stands the text of a name
behind-boundary : (text : List ℕ) → HasNoName text → (n : Name) → AllByRecursion AreBytes n → mangled_more n ≡ underscore ∷ underscore ∷ text → ⊥
behind-boundary text no_name_there [] h e = cc
behind-boundary text no_name_there (x ∷ n) h e = no_name_there (x ∷ n) h (cc)

-- a text that goes on with neither byte, boundary nor end is that of no name
pub joined-no_name : (cs : Name) (c after : List ℕ) → AllByRecursion AreBytes cs → AreBytes c → IsByteless after → IsFault after
    → HasNoName (joined cs (mangled_before c after))
joined-no_name [] c after all bytes stop fault [] is e = absurd is
joined-no_name (d ∷ ds) c after all bytes stop fault [] is e = absurd is
joined-no_name [] c after all bytes stop fault (b ∷ n) is e =
    stops-elsewhere after fault n (same_component b c (mangled_more n) after is.0 bytes (mangled_more-byteless n) stop e).1
joined-no_name (d ∷ ds) c after all bytes stop fault (b ∷ n) is e =
    let whole = joined ds (mangled_before c after) in
    behind-boundary whole (joined-no_name ds c after all.1 bytes stop fault) n is.1
    (same_component b d (mangled_more n) (underscore ∷ underscore ∷ whole) is.0 all.0 (mangled_more-byteless n) (boundary-byteless whole) e).1

-- a further byte is one among bytes
pub bytes-push : (xs : List ℕ) (b : ℕ) → AreBytes xs → b < 256 → AreBytes (xs ++ b ∷ [])
bytes-push [] b h k = (k, tt)
bytes-push (x ∷ xs) b h k = (h.0, bytes-push xs b h.1 k)

-- a further component is one among names of bytes
pub components-push : (cs : Name) (c : List ℕ) → AllByRecursion AreBytes cs → AreBytes c → AllByRecursion AreBytes (cs ++ c ∷ [])
components-push [] c h k = (k, tt)
components-push (d ∷ ds) c h k = (h.0, components-push ds c h.1 k)

-- what was read of a text: components, each with the boundary behind it, and what follows
pub record HasRead (text : List ℕ) (cs : Name) (rest : List ℕ) : Type 0 where
  pub read : text ≡ joined cs rest
  pub bytes : AllByRecursion AreBytes cs

-- a further component was read where a boundary follows it
pub read-on : (text : List ℕ) (cs : Name) (c rest after next : List ℕ) → HasRead text cs rest → rest ≡ mangled_before c after → AreBytes c → after
    ≡ underscore ∷ underscore ∷ next
    → HasRead text (cs ++ c ∷ []) next
read-on text cs c rest after next h e bytes f = record {
  read = h.read ∙ ap (joined cs) (e ∙ ap (mangled_before c) f) ∙ sym (joined-push cs c next);
  bytes = components-push cs c h.bytes bytes;
}

-- the text is that of a name where it ends behind a component
pub read-end : (text : List ℕ) (cs : Name) (c rest after : List ℕ) → HasRead text cs rest → rest ≡ mangled_before c after → after ≡ [] → mangled (cs ++ c ∷ [])
    ≡ text
read-end text cs c rest after h e f = sym (h.read ∙ ap (joined cs) (e ∙ ap (mangled_before c) f) ∙ joined-last cs c)

-- the text is that of no name where something else follows a component
pub read-fault : (text : List ℕ) (cs : Name) (c rest after : List ℕ) → HasRead text cs rest → rest ≡ mangled_before c after → AreBytes c → IsByteless after
    → IsFault after → HasNoName text
read-fault text cs c rest after h e bytes stop fault name is f = joined-no_name cs c after h.bytes bytes stop fault name is (f ∙ h.read ∙ ap (joined cs) e)
