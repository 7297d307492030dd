-- Octets of a nested record's id that are taken at once.
use Rattle.std.proofs.Common.{◌≡◌, ℕ, ◌-◌, ◌≤◌, ◌↔◌, List, [], ◌∷◌, ◌++◌, length, length-append, refl, ap, subst, arith}
use Rattle.ndef_value.specs.ListLaws.{zeros, zeros_length, zeros_octets}
use Rattle.ndef_format.specs.Records.{AreOctets}
use Rattle.ndef_lang.specs.Language.{Continues, PassesBetween, StepsAll}
use Rattle.ndef_lang.specs.StepLaws.{after_passes, steps_whole}
use Rattle.ndef_nest.specs.Machine.Demands.{IsBody}
use Rattle.ndef_nest.proofs.Steps.{after_id, chain}

module _ (member tail : List ℕ → Type 0) where
  pub ids_follow : (id payload : ℕ) (t : List ℕ) → AreOctets t → length t ≤ id → Continues (IsBody member id payload tail) (IsBody member (id - length t) payload tail) t
  ids_follow id payload [] are few r = subst (λ n. IsBody member n payload tail r ↔ IsBody member id payload tail r) (let e : id ≡ id - 0 = omega arith in e) (λ x. x, λ x. x)
  ids_follow id payload (b ∷ t) are few r =
      subst (λ n. IsBody member n payload tail r ↔ IsBody member id payload tail ((b ∷ t) ++ r)) (let e : id - 1 - length t ≡ id - length (b ∷ t) = omega arith in e)
      (chain (ids_follow (id - 1) payload t are.1 (omega arith) r) (after_id member tail id payload b (t ++ r) are.0 (omega arith)))

  -- where some list passes, one that is n shorter does after n octets of the id
  ids_pass : (id payload lo hi n : ℕ) → n ≤ id → PassesBetween (IsBody member id payload tail) lo hi → PassesBetween (IsBody member (id - n) payload tail) (lo - n) (hi - n)
  ids_pass id payload lo hi n few p =
      let x = p.passed in
      let left = x.content ++ x.later in
      let whole = ap length x.spelled in
      let parts = length-append x.id_octets left in
      let next = length-append (zeros (id - n)) left in
      let count = zeros_length (id - n) in
      record {
        rest = zeros (id - n) ++ left;
        passed = record {
          id_octets = zeros (id - n);
          content = x.content;
          later = x.later;
          spelled = refl;
          octets = zeros_octets (id - n);
          id_length = count;
          length = x.length;
          belongs = x.belongs;
          then = x.then;
        };
        least = omega (arith, whole, parts, next, count, x.id_length, p.least);
        most = omega (arith, whole, parts, next, count, x.id_length, p.most);
      }

  -- no octet of an id is refused
  pub ids_taken : (new : List ℕ → Type 0) (id payload : ℕ) (t : List ℕ) (lo hi : ℕ) → AreOctets t → length t ≤ id → Continues (IsBody member (id - length t) payload tail) new [] → PassesBetween (IsBody member id payload tail) lo hi
      → StepsAll (IsBody member id payload tail) new t lo hi (length t)
  ids_taken new id payload t lo hi are few f p =
      steps_whole (IsBody member id payload tail) new t lo hi (λ r. chain (f r) (ids_follow id payload t are few r))
      (after_passes (IsBody member (id - length t) payload tail) new [] (lo - length t) (hi - length t) f (ids_pass id payload lo hi (length t) few p))
