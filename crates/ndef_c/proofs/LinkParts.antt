-- A link of a handover, by the place of its alternative carrier.
use Rattle.std.proofs.Common.{◌≡◌, ℕ, ◌+◌, ◌<◌, ◌^◌, List, length, length-drop, drop, get_or, refl, sym, subst, arith}
use Rattle.std.specs.List.{AllByRecursion}
use Rattle.ndef_format.specs.Messages.{Item, run_record}
use Rattle.ndef_format.specs.Records.{Run}
use Rattle.ndef_format.specs.Handovers.{IsAlternative}
use Rattle.ndef_format.specs.declared.profile.Profile.TheVariants.{Standard}
use Rattle.ndef_types.specs.Links.{alternatives}
use Rattle.ndef_types.specs.Values.{AcValue, StandsForAc}
use Rattle.ndef_c.specs.Handovers.{HasMessage}
use Rattle.ndef_c.specs.Links.{BeginsWithRuns, IsLinkAt, MayHaveLinks, TellsRecord}
use Rattle.ndef_c.specs.RecordQuery.{IsExpectedAt}
use Rattle.ndef_c.specs.Walks.{Lies}
use Rattle.ndef_c.specs.declared.link.NdefLink.{NdefLink}
use Rattle.ndef_c.specs.declared.record.NdefRecord.{NdefRecord}
use Rattle.ndef_c.proofs.Alternatives.{ac_at}
use Rattle.ndef_c.proofs.Filtered.{index_of_expected}
use Rattle.ndef_c.proofs.Handovers.{Handover, handover_of, is_alternative_at, is_carrier}
use Rattle.ndef_c.proofs.Places.{lies_after, lies_within}

-- the record is the alternative carrier with the index
abbrev pub IsCarrier : (payload : List ℕ) → Handover payload → ℕ → NdefRecord → Type 0
IsCarrier payload h index r = IsExpectedAt is_carrier (drop 1 payload) h.items index r

in_set : (payload : List ℕ) (h : Handover payload) (index : ℕ) (r : NdefRecord) (i : IsCarrier payload h index r) → IsAlternative (run_record i.there.run).payload
in_set payload h index r i = is_alternative_at h.items index (run_record i.there.run) h.each (index_of_expected is_carrier (drop 1 payload) h.items index r i)

pub carrier_in_set : (payload : List ℕ) (h : Handover payload) (index : ℕ) (r : NdefRecord) (i : IsCarrier payload h index r) → IsAlternative i.there.run.initial.payload
carrier_in_set payload h index r i = subst IsAlternative (sym i.one) (in_set payload h index r i)

-- it isn't empty
within : (payload : List ℕ) (h : Handover payload) (index : ℕ) (r : NdefRecord) → IsCarrier payload h index r → r.payload_at < length (drop 1 payload)
within payload h index r i =
    let s = i.there.run.initial.payload in
    let some = (ac_at s (get_or s 1 0) (carrier_in_set payload h index r i) refl).length_within in
    lies_within _ _ _ _ i.there.part (omega (arith, some))

pub carrier_bound : (payload : List ℕ) (h : Handover payload) (index : ℕ) (r : NdefRecord) → IsCarrier payload h index r → length payload < 2 ^ 32 → r.payload_at < 2 ^ 32
carrier_bound payload h index r i short =
    let n = within payload h index r i in
    let d = length-drop 1 payload in
    omega (arith, n, d, short)

pub link_is : (bytes payload : List ℕ) (may : MayHaveLinks bytes payload) (h : Handover payload) (index : ℕ) (r : NdefRecord) (out : NdefLink) (v : AcValue) → (i : IsCarrier payload h index r)
    → out.carrier_at ≡ r.payload_at + 1 → out.carrier_length ≡ length i.there.run.initial.payload → StandsForAc i.there.run.initial.payload v
    → ((runs : List Run) → BeginsWithRuns runs bytes → TellsRecord bytes runs v.reference out) → IsLinkAt bytes payload index out
link_is bytes payload may h index r out v i at count stands refers =
    let part = lies_after payload (drop 1 payload) _ r.payload_at r.part_length refl (within payload h index r i) i.there.part in
    let lies : Lies payload out.carrier_at out.carrier_length i.there.run.initial.payload = rw (at, count) (subst (λ n. Lies payload (r.payload_at + 1) n i.there.run.initial.payload) i.there.part.count_is part) in
    record {
      handover = may.handover;
      short = may.short;
      runs = may.message.0;
      message = may.message.1;
      items = h.items;
      records = h.records;
      carrier = run_record i.there.run;
      is_carrier = index_of_expected is_carrier (drop 1 payload) h.items index r i;
      in_set = in_set payload h index r i;
      lies = subst (Lies payload out.carrier_at out.carrier_length) i.one lies;
      at = r.payload_at;
      place = (i.before, i.index_is, i.stands);
      after_version = at;
      alternative = v;
      stands = subst (λ p. StandsForAc p v) i.one stands;
      refers = refers may.message.0 may.message.1;
    }

-- the records of a handover
abbrev pub handover_with : (bytes payload : List ℕ) (items : List Item) → MayHaveLinks bytes payload × HasMessage Standard items payload × AllByRecursion (λ i. IsAlternative i.payload) (alternatives items) → Handover payload
handover_with bytes payload items h = record { some = (handover_of payload h.0.handover).some; items = items; records = h.1; each = h.2 }
