-- Well-typed modules: they are sound over themselves, and grow by typed declarations.
use Rattle.std.proofs.Common.{sym, subst, List, [], ◌∷◌, ◌++◌, append_assoc}
use Rattle.std.proofs.lemmas.List.{append-nil}
use Rattle.lp_spec.specs.Modules.{Declaration}
use Rattle.lp_typing_laws.specs.ConversionLaws.{IsClosed}
use Rattle.lp_spec.specs.Typing.{IsTypedAfter, AreTypedAfter, WellTyped}
use Rattle.lp_typing_laws.specs.Soundness.{IsSound, IsSound-closed, IsSound-all_after}
use Rattle.lp_typing_laws.specs.SignatureLaws.{signature_sound}

-- a well-typed module is sound
pub WellTyped-IsSound : (m : List Declaration) → WellTyped m → IsSound m
WellTyped-IsSound m h = IsSound-all_after [] m signature_sound h

-- a well-typed module is closed
pub WellTyped-IsClosed : (m : List Declaration) → WellTyped m → IsClosed m
WellTyped-IsClosed m h = IsSound-closed m (WellTyped-IsSound m h)

-- declarations typed one after another are joined
pub AreTypedAfter-append : (before ds es : List Declaration) → AreTypedAfter before ds → AreTypedAfter (before ++ ds) es → AreTypedAfter before (ds ++ es)
AreTypedAfter-append before [] es h k = subst (λ b. AreTypedAfter b es) (append-nil before) k
AreTypedAfter-append before (d ∷ ds) es h k =
    (h.0, AreTypedAfter-append (before ++ d ∷ []) ds es h.1 (subst (λ b. AreTypedAfter b es) (sym (append_assoc before (d ∷ []) ds)) k))

-- a well-typed module with a typed declaration after it is well typed
pub WellTyped-after : (m : List Declaration) (d : Declaration) → WellTyped m → IsTypedAfter m d → WellTyped (m ++ d ∷ [])
WellTyped-after m d h k = AreTypedAfter-append [] m (d ∷ []) h (k, tt {0})
