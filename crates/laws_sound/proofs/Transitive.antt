-- Inclusion is transitive.
use Rattle.std.proofs.Common.{◌≡◌, sym, subst, ◌∙◌, inl, inr}
use Rattle.std.proofs.lemmas.Bool.{false≢true, and_parts, and_from}
use Rattle.std.specs.Prelude.{ℕ, true, List}
use Rattle.clu_types.specs.CluType.{CluType, any_type, proc_of, iter_of, CluTypes, no_types, type_and, Signals, no_signals, signal_and}
use Rattle.clu_types.specs.Included.{Included, IsNarrower, HasSignal, AreAmong}
use Rattle.clu_layout.specs.SameType.{fits, all_fit}
use Rattle.clu_layout.proofs.SameTypeLaws.{fits_included, included_fits}

has_among : (name : List ℕ) (os : CluTypes) (few many : Signals) → AreAmong few many → HasSignal name os few → HasSignal name os many
has_among name os no_signals many a h = absurd h
has_among name os (signal_and n ts rest) many a (inl h) = subst (λ x. HasSignal x os many) h.0 (subst (λ x. HasSignal n x many) h.1 a.0)
has_among name os (signal_and n ts rest) many a (inr h) = has_among name os rest many a.1 h

trans_among : (a b c : Signals) → AreAmong a b → AreAmong b c → AreAmong a c
trans_among no_signals b c h k = tt
trans_among (signal_and n ts rest) b c h k = (has_among n ts b c k h.0, trans_among rest b c h.1 k)

trans_narrower : (a b c : CluType) → IsNarrower a b → IsNarrower b c → IsNarrower a c
trans_narrower a b any_type h k = tt
trans_narrower (proc_of ts rs ss) (proc_of ts' rs' ss') (proc_of ts'' rs'' ss'') h k = (h.0 ∙ k.0, h.1 ∙ k.1, trans_among ss ss' ss'' h.2 k.2)
trans_narrower (iter_of ts rs ss) (iter_of ts' rs' ss') (iter_of ts'' rs'' ss'') h k = (h.0 ∙ k.0, h.1 ∙ k.1, trans_among ss ss' ss'' h.2 k.2)
trans_narrower _ (proc_of ts' rs' ss') (proc_of ts'' rs'' ss'') h k = absurd h
trans_narrower _ (iter_of ts' rs' ss') (iter_of ts'' rs'' ss'') h k = absurd h
trans_narrower a _ (proc_of ts'' rs'' ss'') h k = absurd k
trans_narrower a _ (iter_of ts'' rs'' ss'') h k = absurd k
trans_narrower a b _ h k = absurd k

pub trans_fits : (a b c : CluType) → fits a b ≡ true → fits b c ≡ true → fits a c ≡ true
trans_fits a b c h k = included_fits a c (by (fits_included a b h) (fits_included b c k))
  where
    by : Included a b → Included b c → Included a c
    by (inl e) i = subst (λ x. Included x c) (sym e) i
    by (inr h) (inl e) = inr (subst (λ x. IsNarrower a x) e h)
    by (inr h) (inr k) = inr (trans_narrower a b c h k)

pub trans_all : (ts us vs : CluTypes) → all_fit ts us ≡ true → all_fit us vs ≡ true → all_fit ts vs ≡ true
trans_all no_types no_types vs h k = k
trans_all (type_and t ts) (type_and u us) (type_and v vs) h k =
    let p = and_parts (fits t u) (all_fit ts us) h in
    let q = and_parts (fits u v) (all_fit us vs) k in
    and_from (fits t v) (all_fit ts vs) (trans_fits t u v p.0 q.0) (trans_all ts us vs p.1 q.1)
trans_all (type_and t ts) (type_and u us) no_types h k = absurd (false≢true k)
trans_all no_types (type_and u us) vs h k = absurd (false≢true h)
trans_all (type_and t ts) no_types vs h k = absurd (false≢true h)
