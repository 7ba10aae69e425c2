-- Data with parts that are the same.
use Rattle.std.proofs.Common.{◌≡◌, List, ap, ◌∙◌}
use Rattle.serde_json.specs.Data.{Data}
use Rattle.syntax.specs.declared.place.TextPlace.{TextPlace}
use Rattle.trace_page.specs.Pages.{Traced, described_json, parts_json}

pub same_parts : (d l m p q t u : Data) → d ≡ parts_json l p t → l ≡ m → p ≡ q → t ≡ u → d ≡ parts_json m q u
same_parts d l m p q t u is layout program trace =
    is ∙ ap (λ (x : Data). parts_json x p t) layout ∙ ap (λ (x : Data). parts_json m x t) program
    ∙ ap (λ (x : Data). parts_json m q x) trace

pub same_described : (run : Traced) (places : List TextPlace) (d a b k l : Data) → d ≡ described_json run a k places
    → a ≡ b → k ≡ l → d ≡ described_json run b l places
same_described run places d a b k l is arrays cost =
    is ∙ ap (λ (x : Data). described_json run x k places) arrays
    ∙ ap (λ (x : Data). described_json run b x places) cost
