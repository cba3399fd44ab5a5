-- Clauses of public calls cite this file.
-- Alerts as the definitions see them.
use Rattle.std.specs.Prelude.{◌<◌, ℕ, List, [], All, get_or, length, refl}
use Rattle.std.specs.Coded.{Coded, code_by, coded×, coded_ℕ, coded_list}
use Rattle.rapid_model.specs.Bytes.{ConfigurationId}
use Rattle.rapid_model.specs.Process.{Process}
use Rattle.rapid_model.specs.Alert as model
use Rattle.rapid_model.specs.Codes.{bytes_code}
use Rattle.rapid_model.specs.Message.{AlertItem, batch_alerts}
use Rattle.rapid_alerts.specs.declared.alert.Kind.{Kind}
use Rattle.rapid_alerts.specs.declared.alert.Kind.TheVariants.{Remove, Join}
use Rattle.rapid_alerts.specs.declared.alert.Alert.{Alert}
use Rattle.rapid_alerts.specs.declared.alert.AlertRef.{AlertRef}
use Rattle.rapid_alerts.specs.declared.list.Item.{Item}
use Rattle.rapid_alerts.specs.Kinds.{kind_code}

-- The kind of an alert.
abbrev pub kind_of : Kind → model.Kind
kind_of Remove = model.Remove
kind_of Join = model.Join

-- An alert.
abbrev pub alert_of : Alert → model.Alert
alert_of a =
    record {
      observer = a.observer;
      subject = a.subject;
      ring = a.ring;
      kind = kind_of a.kind;
      config = a.config;
    }

-- An alert whose parts stand elsewhere.
abbrev pub alert_of_ref : AlertRef → model.Alert
alert_of_ref a =
    record {
      observer = a.observer;
      subject = a.subject;
      ring = a.ring;
      kind = kind_of a.kind;
      config = a.config.now;
    }

-- What alerts of one observer and one configuration say, in order.
pub record ListedAlerts : Type 0 where
  pub observer : Process
  pub config : ConfigurationId
  pub items : List AlertItem

-- The alerts.
abbrev pub alerts_in : ListedAlerts → List model.Alert
alerts_in l = batch_alerts l.observer l.config l.items

-- What an alert says whose subject stands at a place among these.
abbrev pub item_in : List Process → Item → AlertItem
item_in subjects x = record { ring = x.ring; kind = kind_of x.kind; subject = get_or subjects x.place [] }

-- Each subject stands at its place among these.
abbrev pub ArePlaced : List Process → List Item → Type 0
ArePlaced subjects xs = All (λ x. x.place < length subjects) xs

-- The code of what an alert says.
abbrev pub item_code : Coded AlertItem
item_code =
    code_by (ℕ × (model.Kind × List ℕ))
    (coded× coded_ℕ (coded× kind_code bytes_code))
    (λ x. (x.ring, (x.kind, x.subject)))
    (λ p. record { ring = p.0; kind = p.1.0; subject = p.1.1 })
    (λ _. refl)

-- The code of alerts of one observer and one configuration.
abbrev pub listed_code : Coded ListedAlerts
listed_code =
    code_by (List ℕ × (List ℕ × List AlertItem))
    (coded× bytes_code (coded× bytes_code (coded_list item_code)))
    (λ l. (l.observer, (l.config, l.items)))
    (λ p. record { observer = p.0; config = p.1.0; items = p.1.1 })
    (λ _. refl)
