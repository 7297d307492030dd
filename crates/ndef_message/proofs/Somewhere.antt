-- Consequences of a value that is only known to exist.
use Rattle.std.proofs.Common.{Bool, IsTrue, ℕ, ◌+◌, ◌≤◌, List, length}
use Rattle.std.proofs.Math.Logic.{∥∥₁_elim}
use Rattle.std.proofs.Props.{props}
use Rattle.ndef_format.specs.Messages.{Item, IsShaped}
use Rattle.ndef_format.specs.Records.{HasShape}
use Rattle.ndef_format.specs.declared.tnf.Tnf.{Tnf}
use Rattle.ndef_format.specs.declared.tnf.Tnf.TheVariants.{Empty, WellKnown, Media, AbsoluteUri, External, Unknown, Unchanged}
use Rattle.ndef_message.specs.Opened.{Opened}
use Rattle.ndef_message.specs.Machine.Open.{HasRoom}
use Rattle.ndef_message.specs.declared.phase.Phase.{Phase}
use Rattle.ndef_message.specs.declared.phase.Phase.TheVariants as phases

pub number_of_some : (A : Type 0) (m n : ℕ) → ∥ A ∥₁ → (A → m ≤ n) → m ≤ n
number_of_some A m n some f = ∥∥₁_elim some (hlevel props) f

pub never_some : (A : Type 0) → ∥ A ∥₁ → (A → ⊥) → ⊥
never_some A some f = ∥∥₁_elim some (hlevel props) f

-- a shape, or room, that follows of what is only known to be there
shape_of_some : (A : Type 0) (tnf : Tnf) (kind id payload : ℕ) → ∥ A ∥₁ → (A → HasShape tnf kind id payload) → HasShape tnf kind id payload
shape_of_some A Empty kind id payload some f = (∥∥₁_elim some (hlevel props) (λ a. (f a).0), ∥∥₁_elim some (hlevel props) (λ a. (f a).1), ∥∥₁_elim some (hlevel props) (λ a. (f a).2))
shape_of_some A WellKnown kind id payload some f = number_of_some A 1 kind some f
shape_of_some A Media kind id payload some f = number_of_some A 1 kind some f
shape_of_some A AbsoluteUri kind id payload some f = number_of_some A 1 kind some f
shape_of_some A External kind id payload some f = number_of_some A 1 kind some f
shape_of_some A Unknown kind id payload some f = ∥∥₁_elim some (hlevel props) f
shape_of_some A Unchanged kind id payload some f = ∥∥₁_elim some (hlevel props) f

pub shaped_of_some : (A : Type 0) (m : Item) → ∥ A ∥₁ → (A → IsShaped m) → IsShaped m
shaped_of_some A m some f = record {
  changed = λ e. never_some A some (λ a. (f a).changed e);
  shape = shape_of_some A m.tnf (length m.kind) (length m.id) (length m.payload) some (λ a. (f a).shape);
}

pub room_of_some : (A : Type 0) (phase : Phase) (o : Opened) (t : List ℕ) → ∥ A ∥₁ → (A → HasRoom phase o t) → HasRoom phase o t
room_of_some A phases.Head o t some f = tt
room_of_some A (phases.Type x y) o t some f = number_of_some A (length o.kind + length t) 255 some f
room_of_some A (phases.Id x y) o t some f = number_of_some A (length o.id + length t) 255 some f
room_of_some A (phases.Payload x y) o t some f = tt
room_of_some A phases.Done o t some f = tt
room_of_some A (phases.Refused x) o t some f = tt

pub truth_of_some : (A : Type 0) (b : Bool) → ∥ A ∥₁ → (A → IsTrue b) → IsTrue b
truth_of_some A b some f = ∥∥₁_elim some (hlevel props) f
