-- A record whose payload isn't checked yet isn't refused for its payload.
use Rattle.std.proofs.Common.{◌≡◌, Bool, true, false, List, [], Option, None, Some, Ok, Err, inl, inr, rules, subst, sym}
use Rattle.clap.specs.Words.{Row, first_of}
use Rattle.ndef_format.specs.Messages.{Item}
use Rattle.ndef_format.specs.declared.refusal.Refusal.{Refusal}
use Rattle.std.specs.Prelude.{ℕ, codes}
use Rattle.ndef_cli_make.specs.Carriers.{MakesCarrier, carrier_said}
use Rattle.ndef_cli_make.specs.Checking.{MakesIf}
use Rattle.ndef_cli_make.specs.Contents.{Content, MakesContent, MakesHandover, MakesHandoverSaid, MakesOf, MakesPosterRecord, handover_contents, icon_said, poster_said}
use Rattle.ndef_cli_make.specs.Handovers.{MakesAlternative, MakesError, MakesHandoverOf, MakesSide, ac_said, collision_said, error_said, handover_said}
use Rattle.ndef_cli_make.specs.Making.{MakesBy}
use Rattle.ndef_cli_make.specs.Options.{id_said}
use Rattle.ndef_cli_make.specs.Posters.{MakesNested, action_said, size_said, title_said}
use Rattle.ndef_cli_make.specs.Records.{Answer, IsNamed, MakesItem, MakesNamed, MakesSaid, MakesText, MakesUri, app_said, external_said, item_said, media_said, text_said, uri_said}
use Rattle.ndef_cli_make.specs.declared.contents.Property.TheVariants as property
use Rattle.ndef_cli_make.specs.declared.fault.Fault.{Fault}
use Rattle.ndef_cli_make.specs.declared.fault.Fault.TheVariants.{Usage, Refused, Memory}
use Rattle.ndef_cli_make.specs.declared.fault.Refused.TheVariants as refused
use Rattle.ndef_cli_make.specs.declared.handover.Side.{Side}
use Rattle.ndef_cli_make.specs.declared.handover.Side.TheVariants.{Request, Select}
use Rattle.ndef_cli_make.specs.declared.usage_error.UsageError.{UsageError}
use Rattle.ndef_cli_make.specs.declared.usage_error.UsageError.TheVariants as usage_error
use Rattle.ndef_cli_make.specs.declared.options.Subject.{Subject}
use Rattle.ndef_cli_make.specs.declared.options.Subject.TheVariants as subject

-- the answer of a payload that is refused
abbrev bad : Refusal → Answer
bad r = Err (Refused (refused.BadPayload r))

asked : {X : Type 0} (m : UsageError) (makes : X → Answer → Type 0) (o : Option X) (r : Refusal) → ((x : X) → makes x (bad r) → ⊥) → MakesSaid m makes o (bad r) → ⊥
asked m makes None r never h = absurd (search rules)
asked m makes (Some x) r never h = never x h

content : (payload : List ℕ) (x : Content) (r : Refusal) → MakesContent payload x (bad r) → ⊥
content payload (property.Uri, word) r h = h
content payload (property.Title, word) r h = asked usage_error.Title MakesText (title_said word) r (λ x k. k) h
content payload (property.Action, word) r h = asked usage_error.Action MakesItem (action_said word) r (λ x k. k) h
content payload (property.Size, word) r h = asked usage_error.Size MakesItem (size_said word) r (λ x k. k) h
content payload (property.Media, word) r h = h
content payload (property.Icon, word) r h = asked usage_error.IconType MakesItem (icon_said word payload) r (λ x k. k) h
content payload (property.Collision, word) r h = asked usage_error.Collision MakesItem (collision_said word) r (λ x k. k) h
content payload (property.Carrier, word) r h = asked usage_error.Carrier MakesAlternative (ac_said word) r (λ x k. k) h
content payload (property.Error, word) r h = asked usage_error.Reason MakesError (error_said word) r (λ x k. k) h

made_of : (payload : List ℕ) (makes : List Item → Answer → Type 0) (contents : List Content) (r : Refusal) → ((items : List Item) → makes items (bad r) → ⊥) → MakesOf payload makes contents (bad r) → ⊥
made_of payload makes contents r never (inl h) = content payload h.2 r h.6
made_of payload makes contents r never (inr h) = never h.0 h.2

side : (s : Side) (minor : ℕ) (items : List Item) (r : Refusal) → MakesSide s minor items (bad r) → ⊥
side Request minor items r h = h
side Select minor items r h = h

carrier : (id : List ℕ) (rows : List Row) (payload : List ℕ) (r : Refusal) → MakesSaid usage_error.Format (MakesCarrier id) (carrier_said rows payload) (bad r) → ⊥
carrier id rows payload r h = asked usage_error.Format (MakesCarrier id) (carrier_said rows payload) r (λ x k. elim k [ inl m ↦ m | inr m ↦ m.2 ]) h

named : (id : Option (List ℕ)) (bare : Answer) (r : Refusal) → (bare ≡ bad r → ⊥) → IsNamed id bare (bad r) → ⊥
named None bare r never h = never (sym h)
named (Some id) (Ok i) r never h = h
named (Some id) (Err fault) r never h = never (sym h)

identified : (id : Option (List ℕ)) (makes : Answer → Type 0) (r : Refusal) → (makes (bad r) → ⊥) → MakesNamed id makes (bad r) → ⊥
identified id makes r never h = named id h.0 r (λ is. never (subst makes is h.1)) h.2

-- no record is refused for its payload before that is checked
pub unrefused : (o : Option Subject) (rows : List Row) (payload : List ℕ) (r : Refusal) → MakesBy o rows payload (bad r) → ⊥
unrefused None rows payload r h = absurd (search rules)
unrefused (Some subject.Text) rows payload r h =
    identified (first_of (codes "id") rows) (MakesSaid usage_error.Words MakesText (text_said rows)) r (asked usage_error.Words MakesText (text_said rows) r (λ x k. k)) h
unrefused (Some subject.Uri) rows payload r h =
    identified (first_of (codes "id") rows) (MakesSaid usage_error.Words MakesUri (uri_said rows)) r (asked usage_error.Words MakesUri (uri_said rows) r (λ x k. k)) h
unrefused (Some subject.Poster) rows payload r h =
    identified (first_of (codes "id") rows) (MakesPosterRecord rows payload) r
    (asked usage_error.Icon (MakesOf payload MakesNested) (poster_said rows) r (λ contents k. made_of payload MakesNested contents r (λ items m. m) k)) h
unrefused (Some subject.Handover) rows payload r h =
    identified (first_of (codes "id") rows) (MakesHandoverSaid rows) r
    (asked usage_error.Handover (MakesHandover rows) (handover_said rows) r
    (λ x k. made_of [] (MakesHandoverOf x) (handover_contents rows) r (λ items m. side x.side x.minor items r m) k)) h
unrefused (Some subject.Record) rows payload r h = asked usage_error.Tnf MakesItem (item_said rows payload) r (λ x k. k) h
unrefused (Some subject.Media) rows payload r h = asked usage_error.MediaType MakesItem (media_said rows payload) r (λ x k. k) h
unrefused (Some subject.External) rows payload r h = asked usage_error.ExternalType MakesItem (external_said rows payload) r (λ x k. k) h
unrefused (Some subject.App) rows payload r h = asked usage_error.Package MakesItem (app_said rows) r (λ x k. k) h
unrefused (Some subject.Carrier) rows payload r h = carrier (id_said rows) rows payload r h

-- where no record is made, there is none to be checked
pub unmade_if : (unchecked : Bool) (makes : Answer → Type 0) (fault : Fault) → ((r : Refusal) → makes (bad r) → ⊥) → makes (Err fault) → MakesIf unchecked makes (Err fault)
unmade_if true makes fault never h = h
unmade_if false makes (Usage m) never h = inl h
unmade_if false makes Memory never h = inl h
unmade_if false makes (Refused (refused.BadPayload r)) never h = absurd (never r h)
unmade_if false makes _ never h = h
