-- Alerts by numbers, as the definitions see them.
use Rattle.std.specs.Prelude.{List, map, replicate}
use Rattle.rapid_model.specs.Bytes.{ConfigurationId}
use Rattle.rapid_model.specs.Alert as model
use Rattle.rapid_model.specs.Numbered.{numbered}
use Rattle.rapid_alerts.specs.Alerts.{kind_of}
use Rattle.rapid_detect.specs.declared.numbered_alerts.NumberedAlert.{NumberedAlert}

-- An alert of the processes of two numbers, in this configuration.
abbrev pub alert_in : ConfigurationId → NumberedAlert → model.Alert
alert_in id a =
    record {
      observer = numbered a.observer;
      subject = numbered a.subject;
      ring = a.ring;
      kind = kind_of a.kind;
      config = id;
    }

-- Alerts in the configuration of a table of edges.
abbrev pub alerts_of : List NumberedAlert → List model.Alert
alerts_of xs = map (alert_in (replicate 32 0)) xs
